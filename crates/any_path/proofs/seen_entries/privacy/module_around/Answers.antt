use mathlib.Core.Path.{sym, ◌∙◌}
use native.Mathlib.Omega.{arith}
use Rattle.accept.proofs.Trees.{accepted_tree}
use Rattle.module_tree.proofs.Reading.{length_modules}
use Rattle.module_tree.proofs.Climbs.{some_number, none_number}
use Rattle.any_path.proofs.seen_entries.Laws.{step_falls, around_here, around_on}
use Rattle.accept.specs.Opened.{snap_in}
use Rattle.any_path.proofs.seen_entries.privacy.module_around.Goals as goal

pub returns-in_default : goal.returns-in_default
returns-in_default c =
    let g = c.loop-b in
    let n = (snap_in c.args.db.now) in
    let ok = accepted_tree c.args.db.now.records.words.now n c.args.db.now.reads.same in (
      around_here n ok g.t.0 (rw (length_modules c.args.db.now.records.words.now c.args.db.now.area.now c.args.db.now.records.layout) g.invariant.1)
          (none_number _ c.block_step.ensures c.in_default.is) ∙ sym g.invariant.0,
      g.invariant.1,
    )

pub loop-b-smaller : goal.loop-b-smaller
loop-b-smaller c =
    let g = c.loop-b in
    let n = (snap_in c.args.db.now) in
    let ok = accepted_tree c.args.db.now.records.words.now n c.args.db.now.reads.same in
    step_falls n ok g.t.0 _ (rw (length_modules c.args.db.now.records.words.now c.args.db.now.area.now c.args.db.now.records.layout) g.invariant.1)
    (some_number _ c.block_step.ensures c.in-Some.is)

pub loop-b-preserved : goal.loop-b-preserved
loop-b-preserved c =
    let g = c.loop-b in
    let n = (snap_in c.args.db.now) in
    let ok = accepted_tree c.args.db.now.records.words.now n c.args.db.now.reads.same in
    let e = some_number _ c.block_step.ensures c.in-Some.is in (
      g.invariant.0 ∙ around_on n ok g.t.0 _
          (rw (length_modules c.args.db.now.records.words.now c.args.db.now.area.now c.args.db.now.records.layout) g.invariant.1)
          e,
      omega (
        arith,
        step_falls n ok g.t.0 _
            (rw (length_modules c.args.db.now.records.words.now c.args.db.now.area.now c.args.db.now.records.layout) g.invariant.1)
            e,
        g.invariant.1,
      ),
    )
