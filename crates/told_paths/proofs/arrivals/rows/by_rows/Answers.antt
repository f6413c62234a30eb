use mathlib.Core.Path.{refl, sym, ap, ◌∙◌}
use native.Mathlib.Omega.{arith}
use Rattle.snapshot.specs.Records.{scope_at}
use Rattle.hir_def.specs.Entries.{entry_of}
use Rattle.told_paths.specs.arrivals.Steps.{LeadsTo}
use Rattle.told_paths.proofs.arrivals.Steps.{found_start, found_hit, found_miss, found_none}
use Rattle.told_paths.proofs.arrivals.rows.by_rows.Goals as goal

pub loop-i-init : goal.loop-i-init
loop-i-init c =
    found_start c.args.view.now.db.records.words.now c.args.view.now.db.area.now c.args.view.now.db.records.layout c.args.view.now.db.reads _ _ _

pub returns-in-Some : goal.returns-in-Some
unfolding LeadsTo
returns-in-Some c =
    found_hit c.args.view.now.db.records.words.now c.args.view.now.db.area.now c.args.view.now.db.records.layout c.args.view.now.db.reads
    c.args.view.now.from.0 c.args.n c.args.item _
    c.loop-i.invariant
    c.loop-i-test.true c.requires.1 c.word.ensures
    (sym (ap (entry_of scope_at c.args.view.now.db.records.words.now) c.in-Some.is) ∙ c.entry_for.ensures) refl c.scope_name-name.ensures

pub loop-i-preserved : goal.loop-i-preserved
loop-i-preserved c =
    found_miss c.args.view.now.db.records.words.now c.args.view.now.db.area.now c.args.view.now.db.records.layout c.args.view.now.db.reads
    c.args.view.now.from.0 c.args.n c.args.item _
    c.loop-i.invariant
    c.loop-i-test.true c.requires.1 c.word.ensures
    (sym (ap (entry_of scope_at c.args.view.now.db.records.words.now) c.in_default.is) ∙ c.entry_for.ensures)

pub returns : goal.returns
unfolding LeadsTo
returns c =
    found_none c.args.view.now.db.records.words.now c.args.view.now.db.area.now c.args.view.now.db.records.layout c.args.view.now.db.reads
    c.args.view.now.from.0 c.args.n c.args.item _
    c.loop-i.invariant
    (omega (arith, c.loop-i-test.false))
