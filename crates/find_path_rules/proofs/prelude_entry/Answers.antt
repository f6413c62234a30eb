use Rattle.find_path_spec.specs.Conditions.{EntryFits}
use mathlib.Core.Path.{sym, ap, ◌∙◌, subst}
use Rattle.snapshot.specs.Records.{scope_at}
use Rattle.hir_def.specs.Entries.{entry_of}
use Rattle.find_path_spec.specs.Rules.{prelude_entry}
use Rattle.find_path_rules.proofs.RuleLaws.{entry_taken, entry_left}
use Rattle.accept.specs.Opened.{snap_in}
use Rattle.find_path_rules.proofs.prelude_entry.Goals as goal

pub returns-in_err-h : goal.returns-in_err-h
unfolding prelude_entry
returns-in_err-h c =
    let n = snap_in c.args.db.now in
    let r = c.from_residual.ensures in (
      ap (entry_of scope_at c.args.db.now.records.words.now) r
          ∙ sym (ap (λ e. prelude_entry n c.args.x c.args.item (entry_of scope_at c.args.db.now.records.words.now e)) c.in_err-h.was),
      subst (EntryFits c.args.db.now.records.words.now c.args.db.now.records.layout) (sym r) tt,
    )

pub is_usable-requires : goal.is_usable-requires
is_usable-requires c = (
  c.requires.0,
  (c.requires.1 _ c.in_ok-h.was).inside,
)

pub returns-then-is_usable : goal.returns-then-is_usable
returns-then-is_usable c =
    let n = snap_in c.args.db.now in
    let W = c.args.db.now.records.words.now in
    let e = entry_taken n c.args.x c.args.item (scope_at W c.in_ok-h.h) c.is_usable.ensures c.if-is_usable.true in
    (e ∙ sym (ap (λ e. prelude_entry n c.args.x c.args.item (entry_of scope_at W e)) c.in_ok-h.was), c.requires.1 _ c.in_ok-h.was)

pub returns : goal.returns
returns c =
    let n = snap_in c.args.db.now in
    let W = c.args.db.now.records.words.now in
    let e = entry_left n c.args.x c.args.item (scope_at W c.in_ok-h.h) c.is_usable.ensures c.if-is_usable.false in
    (e ∙ sym (ap (λ e. prelude_entry n c.args.x c.args.item (entry_of scope_at W e)) c.in_ok-h.was), tt)
