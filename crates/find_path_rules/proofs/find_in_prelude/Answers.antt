use Rattle.find_path_spec.specs.Conditions.{EntryFits}
use mathlib.Core.Path.{sym, ap, ◌∙◌, subst}
use Rattle.snapshot.specs.Records.{prelude_at, scope_at}
use Rattle.hir_def.specs.Entries.{entry_of}
use Rattle.hir_def.proofs.Fits.{preferred_fits}
use Rattle.find_path_rules.specs.rule_lookups.Tests.{test_of}
use Rattle.find_path_rules.proofs.RuleLaws.{prelude_none, prelude_some}
use Rattle.accept.specs.Opened.{snap_in}
use Rattle.find_path_rules.proofs.find_in_prelude.Goals as goal

pub returns-in_err-p : goal.returns-in_err-p
returns-in_err-p c =
    let n = snap_in c.args.db.now in
    let e = sym (ap (entry_of prelude_at c.args.db.now.records.words.now) c.in_err-p.was) ∙ c.prelude_of.ensures
    c.args.db.now.area.now in
    let r = c.from_residual.ensures in (
      ap (entry_of scope_at c.args.db.now.records.words.now) r ∙ prelude_none n c.args.x c.args.item c.map.ensures e,
      subst (EntryFits c.args.db.now.records.words.now c.args.db.now.records.layout) (sym r) tt,
    )

pub prelude_entry-requires : goal.prelude_entry-requires
prelude_entry-requires c =
    let W = c.args.db.now.records.words.now in
    let A = c.args.db.now.area.now in (
      c.requires,
      λ h e. preferred_fits W A c.args.db.now.records.layout c.args.db.now.reads c.args.x.fresh c.prelude_target.result.0 h
          c.args.item _ (sym (ap (entry_of scope_at W) e) ∙ c.entry_by-e.ensures.0),
    )

pub returns : goal.returns
unfolding test_of
returns c =
    let n = snap_in c.args.db.now in
    let W = c.args.db.now.records.words.now in
    let A = c.args.db.now.area.now in
    let e = sym (ap (entry_of prelude_at W) c.in_ok-p.was) ∙ c.prelude_of.ensures A in
    let k = prelude_some n c.args.x c.args.item (prelude_at W c.in_ok-p.p)
    c.map.ensures e c.prelude_target.ensures
    c.entry_by-e.ensures.0 in
    (c.prelude_entry.ensures.0 ∙ k, c.prelude_entry.ensures.1)
