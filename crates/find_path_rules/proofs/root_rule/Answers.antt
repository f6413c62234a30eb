use mathlib.Core.Path.{sym, ap, ◌∙◌}
use mathlib.Core.Bool.{not, ◌||◌}
use borrow.Author.Tests.{eqb-false, eqb-true, not-false, not-true}
use Rattle.snapshot.specs.Records.{extern_at}
use Rattle.hir_def.specs.Entries.{entry_of}
use Rattle.hir_def.proofs.Fits.{extern_fits}
use Rattle.find_path_rules.proofs.RuleLaws.{root_other, root_crate, root_extern}
use Rattle.accept.specs.Opened.{snap_in}
use Rattle.find_path_rules.proofs.root_rule.Goals as goal

pub returns-then-ne : goal.returns-then-ne
returns-then-ne c =
    let n = snap_in c.args.db.now in
    root_other n c.args.x c.args.maybe_extern c.args.m.0 c.crate_root.ensures
    (eqb-false _ _ (not-true _ (sym c.ne.ensures ∙ c.if-ne.true)))

pub returns-then-maybe_extern-eq : goal.returns-then-maybe_extern-eq
returns-then-maybe_extern-eq c =
    let n = snap_in c.args.db.now in
    c.keyword.ensures ∙ root_crate n c.args.x c.args.maybe_extern c.args.m.0
    c.crate_root.ensures (eqb-true _ _ (not-false _ (sym c.ne.ensures ∙ c.if-ne.false)))
    (ap (λ z. not c.args.maybe_extern || z) (sym c.eq.ensures) ∙ c.if-maybe_extern-eq.true)

pub extern_rule-requires : goal.extern_rule-requires
extern_rule-requires c =
    let W = c.args.db.now.records.words.now in
    let A = c.args.db.now.area.now in (
      c.requires.0,
      λ h e. extern_fits W A c.args.db.now.records.layout c.args.db.now.reads c.args.x.from_crate.0 c.args.m.0 h
          (sym (ap (entry_of extern_at W) e) ∙ c.extern_of-e.ensures A),
    )

pub returns : goal.returns
returns c =
    let n = snap_in c.args.db.now in
    c.extern_rule.ensures
    ∙ root_extern n c.args.x c.args.maybe_extern c.args.m.0
    c.crate_root.ensures
    (eqb-true _ _ (not-false _ (sym c.ne.ensures ∙ c.if-ne.false)))
    (ap (λ z. not c.args.maybe_extern || z) (sym c.eq.ensures) ∙ c.if-maybe_extern-eq.false) (c.extern_of-e.ensures c.args.db.now.area.now)
