use mathlib.Core.Bool.{true, false}
use mathlib.Core.Path.{sym, ap, ◌∙◌}
use Rattle.snapshot.specs.Records.{extern_at}
use Rattle.hir_def.specs.Entries.{entry_of}
use Rattle.find_path_choice.specs.Given.{given}
use Rattle.find_path_spec.specs.Rules.{extern_kind, extern_name}
use Rattle.find_path_rules.proofs.RuleLaws.{extern_some}
use Rattle.accept.specs.Opened.{snap_in}
use Rattle.find_path_rules.proofs.extern_rule.Goals as goal

pub returns-in_err-h : goal.returns-in_err-h
unfolding extern_name
returns-in_err-h c =
    let n = snap_in c.args.db.now in
    ap given c.from_residual.ensures ∙ sym (ap (λ e. extern_name n c.args.x c.args.m.0 (entry_of extern_at c.args.db.now.records.words.now e))
    c.in_err-h.was)

pub step_by-via-requires : goal.step_by-via-requires
step_by-via-requires c =
    (c.requires.1 _ c.in_ok-h.was).place

pub new-requires : goal.new-requires
new-requires c = rw c.extern_name-name.ensures
    (c.requires.1 _ c.in_ok-h.was).name

pub returns-then-occupied-x : goal.returns-then-occupied-x
unfolding extern_kind
returns-then-occupied-x c =
    let n = snap_in c.args.db.now in
    let W = c.args.db.now.records.words.now in
    let e = extern_some n c.args.x c.args.m.0 (extern_at W c.in_ok-h.h) true c.extern_name-name.ensures
    c.step_by-via.ensures c.occupied.ensures c.if-occupied-x.true in
    c.new.ensures ∙ e ∙ sym (ap (λ e. extern_name n c.args.x c.args.m.0 (entry_of extern_at W e)) c.in_ok-h.was)

pub new-requires-2 : goal.new-requires-2
new-requires-2 c = rw c.extern_name-name.ensures
    (c.requires.1 _ c.in_ok-h.was).name

pub returns : goal.returns
unfolding extern_kind
returns c =
    let n = snap_in c.args.db.now in
    let W = c.args.db.now.records.words.now in
    let e = extern_some n c.args.x c.args.m.0 (extern_at W c.in_ok-h.h) false c.extern_name-name.ensures
    c.step_by-via.ensures c.occupied.ensures c.if-occupied-x.false in
    c.new-2.ensures ∙ e ∙ sym (ap (λ e. extern_name n c.args.x c.args.m.0 (entry_of extern_at W e)) c.in_ok-h.was)
