use mathlib.Core.Bool.{not}
use mathlib.Core.Path.{◌≡◌, sym, ap, subst, ◌∙◌}
use Prim.Native.Nat.{◌≤◌}
use lib.Seq.{length-take-le}
use borrow.Author.Rules.{rules}
use native.Mathlib.Omega.{arith}
use lib.ListN.{length}
use Rattle.snapshot.specs.declared.ids.DefinitionKind.TheVariants.{Builtin}
use Rattle.hir_def.proofs.KindTests.{kind_is}
use Rattle.find_path_choice.specs.Given.{chosen, given}
use Rattle.find_path_spec.specs.Report.{misleads}
use Rattle.answer.proofs.checked.Reading.{nothing_read, not_read, is_read}
use Rattle.snapshot.specs.Laid.{snap_by}
use Rattle.answer.proofs.checked.found.misleads.Goals as goal

pub returns-in_default : goal.returns-in_default
returns-in_default c =
    let S = snap_by c.args.db.now.records c.args.db.now.area.now in
    nothing_read S c.args.q ∙ ap (λ z. misleads S c.args.q (given z)) (sym c.in_default.is)

pub returns-then-not-read : goal.returns-then-not-read
returns-then-not-read c =
    let s = c.args in
    let S = snap_by s.db.now.records s.db.now.area.now in
    not_read S s.q (chosen c.in-Some.c) (kind_is Builtin _ c.eq.ensures (c.known_kind_of.ensures s.db.now.area.now)) (ap not c.if-not-read.true)
    ∙ ap (λ z. misleads S s.q (given z)) (sym c.in-Some.is)

pub slice_bounds-reads_back-end : goal.slice_bounds-reads_back-end
slice_bounds-reads_back-end c =
    let h : 16 ≡ length c.in-Some.c.names = search rules in
    let k = subst (λ z. (given z).count ≤ 16) c.in-Some.is c.requires.1 in
    sym (length-take-le _ c.in-Some.c.names (omega (arith, k, h)))

pub reads_back-requires : goal.reads_back-requires
reads_back-requires c = c.requires.0

pub returns : goal.returns
returns c =
    let s = c.args in
    let S = snap_by s.db.now.records s.db.now.area.now in
    is_read S s.q (chosen c.in-Some.c) (kind_is Builtin _ c.eq.ensures (c.known_kind_of.ensures s.db.now.area.now))
    (ap not c.if-not-read.false) (c.item_of-item.ensures s.db.now.area.now) c.reads_back.ensures
    ∙ ap (λ z. misleads S s.q (given z)) (sym c.in-Some.is)
