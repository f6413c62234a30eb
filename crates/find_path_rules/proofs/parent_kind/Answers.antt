use Prim.Native.Nat.{◌<◌}
use mathlib.Core.Path.{sym, ap, ◌∙◌, subst}
use borrow.Author.Tests.{eqb-false, eqb-true, not-false, not-true}
use Rattle.std.specs.Prelude.{option_map}
use Rattle.snapshot.specs.PathKinds.{path_kind_number}
use Rattle.hir_def.proofs.Reading.{map_read}
use Rattle.hir_def.proofs.Climbs.{some_number, none_number}
use Rattle.find_path_rules.proofs.RuleLaws.{parent_none, parent_no, parent_crate, parent_super}
use Rattle.accept.specs.Opened.{snap_in}
use Rattle.find_path_rules.proofs.parent_kind.Goals as goal

pub returns-in_err-parent : goal.returns-in_err-parent
returns-in_err-parent c =
    let n = snap_in c.args.db.now in
    ap (option_map path_kind_number) c.from_residual.ensures
    ∙ parent_none n c.args.x c.args.m.0 _ (none_number _ c.parent.ensures c.in_err-parent.was)

pub returns-then-ne : goal.returns-then-ne
returns-then-ne c =
    let n = snap_in c.args.db.now in
    parent_no n c.args.x c.args.m.0 _ (some_number _ c.parent.ensures c.in_ok-parent.was)
    (eqb-false _ _ (not-true _ (sym c.ne.ensures ∙ c.if-ne.true)))

pub root-requires : goal.root-requires
root-requires c =
    let db = c.args.db.now in
    let e = map_read db.records.words.now db.area.now db.records.layout db.reads.tables c.args.x.from.0 c.requires.0 ∙ sym c.map.ensures in
    subst (λ k. k < db.records.layout.maps) e (db.reads.tables.below c.args.x.from.0 c.requires.0)

pub returns-then-eq : goal.returns-then-eq
returns-then-eq c =
    let n = snap_in c.args.db.now in
    parent_crate n c.args.x c.args.m.0 c.map.ensures c.root.ensures _
    (some_number _ c.parent.ensures c.in_ok-parent.was) (eqb-true _ _ (not-false _ (sym c.ne.ensures ∙ c.if-ne.false)))
    (eqb-true _ _ (sym c.eq.ensures ∙ c.if-eq.true))

pub returns : goal.returns
returns c =
    let n = snap_in c.args.db.now in
    parent_super n c.args.x c.args.m.0 c.map.ensures c.root.ensures _
    (some_number _ c.parent.ensures c.in_ok-parent.was) (eqb-true _ _ (not-false _ (sym c.ne.ensures ∙ c.if-ne.false)))
    (eqb-false _ _ (sym c.eq.ensures ∙ c.if-eq.false))
