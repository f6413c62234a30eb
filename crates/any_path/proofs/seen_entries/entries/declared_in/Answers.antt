use Prim.Native.Nat.{◌<◌}
use mathlib.Core.Path.{sym, ap, subst, ◌∙◌}
use Rattle.module_tree.specs.rules.Modules.{parent_of}
use Rattle.hir_def.specs.Items.{home_of}
use Rattle.hir_def.proofs.Fits.{module_known}
use Rattle.snapshot.specs.declared.ids.DefinitionKind.TheVariants.{Module}
use Rattle.hir_def.proofs.KindTests.{kind_yes, kind_no}
use Rattle.any_path.proofs.seen_entries.Laws.{in_module_lem, in_home}
use Rattle.accept.specs.Opened.{snap_in}
use Rattle.any_path.proofs.seen_entries.entries.declared_in.Goals as goal

pub parent-requires : goal.parent-requires
parent-requires c =
    let A = c.args.db.now.area.now in
    let k = kind_yes Module _ c.eq.ensures (c.known_kind_of.ensures A) c.if-eq.true in
    subst (λ x. x < c.args.db.now.records.layout.modules) (sym (c.first_of.ensures A))
    (module_known c.args.db.now.records.words.now A c.args.db.now.records.layout c.args.db.now.reads c.args.d.0 c.requires k)

pub returns-then-eq : goal.returns-then-eq
returns-then-eq c =
    let A = c.args.db.now.area.now in
    let k = kind_yes Module _ c.eq.ensures (c.known_kind_of.ensures A) c.if-eq.true in
    c.parent.ensures ∙ ap (λ x. parent_of (snap_in c.args.db.now) x) (c.first_of.ensures A)
    ∙ in_module_lem (snap_in c.args.db.now) c.args.d.0 k

pub returns : goal.returns
unfolding home_of
returns c =
    let A = c.args.db.now.area.now in
    c.home_of.ensures A ∙ in_home (snap_in c.args.db.now) c.args.d.0
    (kind_no Module _ c.eq.ensures (c.known_kind_of.ensures A) c.if-eq.false)
