use mathlib.Core.Path.{sym, ap, ◌∙◌}
use Rattle.snapshot.specs.Records.{member_at}
use Rattle.hir_def.specs.Items.{item_of}
use Rattle.hir_def.specs.Entries.{entry_of}
use Rattle.read_back.proofs.Cases.{variant_none, variant_some, variant_macro}
use Rattle.snapshot.specs.Laid.{snap_by}
use Rattle.read_back.proofs.names.in_enum.Goals as goal

pub returns-in_err-h : goal.returns-in_err-h
returns-in_err-h c =
    λ A.
    c.from_residual.ensures
    ∙ variant_none (snap_by c.args.records.now A) c.args.ns (sym (c.variant_named.ensures A)
    ∙ ap (entry_of member_at c.args.records.now.words.now) c.in_err-h.was)

pub returns-then-ns-lt-MACROS : goal.returns-then-ns-lt-MACROS
returns-then-ns-lt-MACROS c =
    λ A.
    variant_some (snap_by c.args.records.now A) c.args.ns
    (sym (c.variant_named.ensures A)
    ∙ ap (entry_of member_at c.args.records.now.words.now) c.in_ok-h.was) c.if-ns-lt-MACROS.true
    (c.item_of.ensures A ∙ ap (item_of (snap_by c.args.records.now A) c.args.ns) c.member_definition.ensures)

pub returns : goal.returns
returns c =
    λ A.
    variant_macro (snap_by c.args.records.now A) c.args.ns (sym (c.variant_named.ensures A)
    ∙ ap (entry_of member_at c.args.records.now.words.now) c.in_ok-h.was) c.if-ns-lt-MACROS.false
