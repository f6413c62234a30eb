use mathlib.Core.Path.{sym, ap, ap₂, ◌∙◌, subst}
use Rattle.snapshot.specs.Records.{scope_at}
use Rattle.snapshot.specs.PathKinds.{path_kind_number}
use Rattle.hir_def.specs.Entries.{entry_of}
use Rattle.find_path_choice.specs.Choices.{choice_new}
use Rattle.find_path_choice.specs.Given.{given}
use Rattle.find_path_choice.specs.StepRules.{rule_number}
use Rattle.find_path_spec.specs.Conditions.{EntryFits}
use Rattle.find_path_spec.specs.Rules.{single}
use Rattle.find_path_rules.proofs.RuleLaws.{kind_number}
use Rattle.accept.specs.Opened.{snap_in}
use Rattle.find_path_rules.proofs.single.Goals as goal

pub returns-in_err-h : goal.returns-in_err-h
unfolding single
returns-in_err-h c =
    λ x.
    (
    let n = snap_in c.args.db.now in
    ap given c.from_residual.ensures
    ∙ sym (ap (λ e. single n x (path_kind_number c.args.kind) (rule_number c.args.rule) (entry_of scope_at c.args.db.now.records.words.now e))
    c.in_err-h.was))

pub step_by-via-requires : goal.step_by-via-requires
step_by-via-requires c =
    (subst (EntryFits c.args.db.now.records.words.now c.args.db.now.records.layout) c.in_ok-h.was c.requires).place

pub new-requires : goal.new-requires
new-requires c =
    let f = subst (EntryFits c.args.db.now.records.words.now c.args.db.now.records.layout) c.in_ok-h.was c.requires in
    rw c.scope_name.ensures f.name

pub returns : goal.returns
unfolding single
returns c =
    λ x.
    (
    let n = snap_in c.args.db.now in
    c.new.ensures
    ∙ ap (λ k. choice_new n k c.scope_name.result.0 c.step_by-via.result) (kind_number c.args.kind)
    ∙ ap₂ (choice_new n (path_kind_number c.args.kind)) c.scope_name.ensures c.step_by-via.ensures
    ∙ sym (ap (λ e. single n x (path_kind_number c.args.kind) (rule_number c.args.rule) (entry_of scope_at c.args.db.now.records.words.now e))
    c.in_ok-h.was))
