use mathlib.Core.Path.{ap, ◌∙◌}
use mathlib.Core.Bool.{not}
use Rattle.std.proofs.lemmas.Option.{MatchOption-at_some}
use Rattle.snapshot.specs.declared.ids.DefinitionKind.TheVariants.{Variant}
use Rattle.hir_def.proofs.KindTests.{kind_not, kind_so}
use Rattle.told_paths.proofs.shortest_paths.Laws.{enum_other, enum_not, enum_nowhere, enum_there}
use Rattle.accept.specs.Opened.{snap_in}
use Rattle.told_paths.proofs.shortest_paths.by_enum.variant_told.Goals as goal

pub returns-then-ne : goal.returns-then-ne
returns-then-ne c =
    enum_other c.args.named (snap_in c.args.view.now.db) c.args.view.now.from.0 c.args.ns.0
    c.args.d.0 (kind_not Variant _ c.ne.ensures (c.known_kind_of.ensures c.args.view.now.db.area.now) c.if-ne.true)

pub returns-then-not-is_variant : goal.returns-then-not-is_variant
returns-then-not-is_variant c =
    let A = c.args.view.now.db.area.now in
    enum_not c.args.named (snap_in c.args.view.now.db) c.args.view.now.from.0 c.args.ns.0
    c.args.d.0 (kind_so Variant _ c.ne.ensures (c.known_kind_of.ensures A) c.if-ne.false) _ _ (c.first_of.ensures A) (c.second_of.ensures A)
    (c.is_variant.ensures A) (ap not c.if-not-is_variant.true)

pub returns-in_err-t : goal.returns-in_err-t
returns-in_err-t c =
    let A = c.args.view.now.db.area.now in
    c.from_residual.ensures
    ∙ enum_nowhere c.args.named (snap_in c.args.view.now.db) c.args.view.now.from.0
    c.args.ns.0 c.args.d.0 (kind_so Variant _ c.ne.ensures (c.known_kind_of.ensures A) c.if-ne.false) _ _ (c.first_of.ensures A)
    (c.second_of.ensures A) c.arrival_told.ensures.value c.in_err-t.was

pub more-requires : goal.more-requires
more-requires c = MatchOption-at_some _ _ _ c.in_ok-t.was c.arrival_told.ensures.count_bound

pub returns : goal.returns
returns c =
    let A = c.args.view.now.db.area.now in
    enum_there c.args.named (snap_in c.args.view.now.db) c.args.view.now.from.0 c.args.ns.0
    c.args.d.0 (kind_so Variant _ c.ne.ensures (c.known_kind_of.ensures A) c.if-ne.false) _ _ (c.first_of.ensures A) (c.second_of.ensures A)
    c.arrival_told.ensures.value (c.is_variant.ensures A) (ap not c.if-not-is_variant.false) c.in_ok-t.was c.more.ensures
