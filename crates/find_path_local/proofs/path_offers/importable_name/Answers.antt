use Rattle.find_path_spec.specs.Conditions.{EntryFits}
use mathlib.Core.Path.{sym, ap, ◌∙◌, subst}
use Rattle.snapshot.specs.Records.{scope_at}
use Rattle.hir_def.specs.Entries.{entry_of}
use Rattle.hir_def.proofs.Fits.{preferred_fits}
use Rattle.find_path_spec.specs.Local.{entry_if, importable_name}
use Rattle.find_path_rules.specs.rule_lookups.Tests.{test_of}
use Rattle.find_path_local.proofs.path_offers.OfferLaws.{entry_taken, entry_left}
use Rattle.accept.specs.Opened.{snap_in}
use Rattle.find_path_local.proofs.path_offers.importable_name.Goals as goal

pub returns-in_err-h : goal.returns-in_err-h
unfolding entry_if importable_name test_of
returns-in_err-h c =
    let n = snap_in c.args.db.now in
    let W = c.args.db.now.records.words.now in
    let r = c.from_residual.ensures in (
      ap (entry_of scope_at W) r ∙ ap (entry_if n c.args.x) (sym (ap (entry_of scope_at W) c.in_err-h.was) ∙ c.entry_by.ensures.0),
      subst (EntryFits W c.args.db.now.records.layout) (sym r) tt,
    )

pub is_importable-requires : goal.is_importable-requires
is_importable-requires c =
    let W = c.args.db.now.records.words.now in
    let A = c.args.db.now.area.now in
    let o = sym (ap (entry_of scope_at W) c.in_ok-h.was) ∙ c.entry_by.ensures.0 in
    (c.requires, (preferred_fits W A c.args.db.now.records.layout c.args.db.now.reads c.args.x.fresh c.args.m.0 c.in_ok-h.h c.args.item _ o).inside)

pub returns-then-is_importable : goal.returns-then-is_importable
unfolding importable_name test_of
returns-then-is_importable c =
    let n = snap_in c.args.db.now in
    let W = c.args.db.now.records.words.now in
    let o = sym (ap (entry_of scope_at W) c.in_ok-h.was) ∙ c.entry_by.ensures.0 in
    let e = entry_taken n c.args.x (scope_at W c.in_ok-h.h) c.is_importable.ensures c.if-is_importable.true in (
      e ∙ ap (entry_if n c.args.x) o,
      preferred_fits W c.args.db.now.area.now c.args.db.now.records.layout c.args.db.now.reads c.args.x.fresh
          c.args.m.0 c.in_ok-h.h c.args.item _ o,
    )

pub returns : goal.returns
unfolding importable_name test_of
returns c =
    let n = snap_in c.args.db.now in
    let W = c.args.db.now.records.words.now in
    let o = sym (ap (entry_of scope_at W) c.in_ok-h.was) ∙ c.entry_by.ensures.0 in
    let e = entry_left n c.args.x (scope_at W c.in_ok-h.h) c.is_importable.ensures c.if-is_importable.false in
    (e ∙ ap (entry_if n c.args.x) o, tt)
