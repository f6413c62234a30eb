use mathlib.Core.Path.{sym, ap, ◌∙◌}
use Rattle.snapshot.specs.Records.{scope_at}
use Rattle.hir_def.proofs.ItemTests.{item_eq}
use Rattle.hir_def.specs.Items.{same_item}
use Rattle.hir_def.specs.Entries.{entry_of}
use Rattle.find_path_spec.specs.Rules.{same_here}
use Rattle.snapshot.specs.Laid.{snap_by}
use Rattle.find_path_rules.proofs.rule_lookups.same_here.Goals as goal

pub returns-in_default : goal.returns-in_default
unfolding same_here
returns-in_default c =
    λ A x.
    (
    let n = snap_by c.args.records.now A in
    sym (ap (λ e. same_here n x c.args.item (entry_of scope_at c.args.records.now.words.now e)) c.in_default.is))

pub returns : goal.returns
unfolding same_here
returns c =
    λ A x.
    (
    let n = snap_by c.args.records.now A in
    c.eq.ensures ∙ item_eq _ _ ∙ ap (λ y. same_item y c.args.item) (c.item_at.ensures A)
    ∙ sym (ap (λ e. same_here n x c.args.item (entry_of scope_at c.args.records.now.words.now e))
    c.in-Some.is))
