use mathlib.Core.Path.{refl, sym, ap, ◌∙◌}
use native.Mathlib.Omega.{arith}
use Rattle.snapshot.specs.Records.{member_at}
use Rattle.hir_def.specs.Entries.{entry_of}
use Rattle.told_paths.proofs.told_routes.Laws.{answers_as, variant_macro, variant_gone, variant_answers}
use Rattle.told_paths.proofs.told_routes.names.in_enum.Goals as goal

pub returns-then-ns-ge-MACROS : goal.returns-then-ns-ge-MACROS
returns-then-ns-ge-MACROS c =
    answers_as
    (variant_macro c.args.db.now.records.words.now c.args.db.now.area.now c.args.db.now.records.layout c.args.db.now.reads c.args.ns c.args.d.0
    c.args.name.0
    c.if-ns-ge-MACROS.true)
    refl

pub returns-in_err-h : goal.returns-in_err-h
returns-in_err-h c =
    let A = c.args.db.now.area.now in
    answers_as
    (variant_gone c.args.db.now.records.words.now A c.args.db.now.records.layout c.args.db.now.reads c.args.ns c.args.d.0 c.args.name.0
    (omega (arith, c.if-ns-ge-MACROS.false))
    (sym (ap (entry_of member_at c.args.db.now.records.words.now) c.in_err-h.was) ∙ c.variant_named.ensures A))
    c.from_residual.ensures

pub returns : goal.returns
returns c =
    let A = c.args.db.now.area.now in
    variant_answers c.args.db.now.records.words.now A c.args.db.now.records.layout c.args.db.now.reads c.args.ns c.args.d.0 c.args.name.0
    (omega (arith, c.if-ns-ge-MACROS.false)) _
    (sym (ap (entry_of member_at c.args.db.now.records.words.now) c.in_ok-h.was) ∙ c.variant_named.ensures A)
    c.member_definition-its.ensures (c.definition_head-place.ensures A)
