use mathlib.Core.Path.{sym, ap, ◌∙◌}
use mathlib.Core.Bool.{not}
use Rattle.snapshot.specs.Records.{scope_at}
use Rattle.hir_def.proofs.ItemTests.{item_eq}
use Rattle.hir_def.specs.Items.{same_item, module_item}
use Rattle.hir_def.specs.Entries.{entry_of}
use Rattle.hir_def.specs.Nameres.{is_other}
use Rattle.snapshot.specs.Laid.{snap_by}
use Rattle.hir_def.proofs.nameres.is_other.Goals as goal

pub returns-in_default : goal.returns-in_default
unfolding is_other
returns-in_default c =
    λ A.
    (
    sym (ap (λ e. is_other (snap_by c.args.records.now A) c.args.m.0 (entry_of scope_at c.args.records.now.words.now e))
    c.in_default.is))

pub returns : goal.returns
unfolding is_other
returns c =
    λ A.
    (
    c.ne.ensures ∙ ap not (item_eq _ _ ∙ ap (λ x. same_item x (module_item c.args.m.0)) (c.item_at.ensures A))
    ∙ sym (ap (λ e. is_other (snap_by c.args.records.now A) c.args.m.0 (entry_of scope_at c.args.records.now.words.now e))
    c.in-Some.is))
