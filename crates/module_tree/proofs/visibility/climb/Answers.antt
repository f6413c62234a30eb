use mathlib.Core.Path.{sym, ◌∙◌}
use native.Mathlib.Omega.{arith}
use Rattle.snapshot.specs.Layouts.{snap_of}
use Rattle.module_tree.proofs.Reading.{length_modules}
use Rattle.accept.proofs.Trees.{accepted_tree}
use Rattle.module_tree.proofs.Chains.{climb_falls}
use Rattle.module_tree.proofs.Climbs.{some_number, none_number, climb_here, climb_top, climb_on, climb_less}
use Rattle.module_tree.proofs.visibility.climb.Goals as goal

pub returns-in_default : goal.returns-in_default
returns-in_default c =
    let g = c.loop-t in
    let n = (snap_of c.args.db.now.records.words.now c.args.db.now.area.now c.args.db.now.records.layout) in (
      climb_top n c.args.viewer
          (climb_falls n (accepted_tree c.args.db.now.records.words.now
          (snap_of c.args.db.now.records.words.now c.args.db.now.area.now c.args.db.now.records.layout) c.args.db.now.reads.same)
          c.args.viewer) g.t.0 (rw (length_modules c.args.db.now.records.words.now c.args.db.now.area.now c.args.db.now.records.layout) g.invariant.1)
          (λ e. c.loop-t-test.true (c.map.ensures ∙ e))
          (none_number _ c.block.ensures c.in_default.is) ∙ sym g.invariant.0,
      g.invariant.1,
    )

pub loop-t-smaller : goal.loop-t-smaller
loop-t-smaller c =
    let g = c.loop-t in
    let n = (snap_of c.args.db.now.records.words.now c.args.db.now.area.now c.args.db.now.records.layout) in
    climb_less n c.args.viewer
    (climb_falls n (accepted_tree c.args.db.now.records.words.now
    (snap_of c.args.db.now.records.words.now c.args.db.now.area.now c.args.db.now.records.layout) c.args.db.now.reads.same)
    c.args.viewer) g.t.0 (rw (length_modules c.args.db.now.records.words.now c.args.db.now.area.now c.args.db.now.records.layout) g.invariant.1)
    (λ e. c.loop-t-test.true (c.map.ensures ∙ e)) _
    (some_number _ c.block.ensures c.in-Some.is)

pub loop-t-preserved : goal.loop-t-preserved
loop-t-preserved c =
    let g = c.loop-t in
    let n = (snap_of c.args.db.now.records.words.now c.args.db.now.area.now c.args.db.now.records.layout) in
    let f = climb_falls n
    (accepted_tree c.args.db.now.records.words.now (snap_of c.args.db.now.records.words.now c.args.db.now.area.now c.args.db.now.records.layout)
    c.args.db.now.reads.same) c.args.viewer in
    let e = some_number _ c.block.ensures c.in-Some.is in
    let d = climb_less n c.args.viewer f g.t.0
    (rw (length_modules c.args.db.now.records.words.now c.args.db.now.area.now c.args.db.now.records.layout) g.invariant.1)
    (λ e. c.loop-t-test.true (c.map.ensures ∙ e)) _ e in (
      g.invariant.0 ∙ climb_on n c.args.viewer f g.t.0
          (rw (length_modules c.args.db.now.records.words.now c.args.db.now.area.now c.args.db.now.records.layout)
          g.invariant.1) (λ e. c.loop-t-test.true (c.map.ensures ∙ e))
          _ e,
      omega (arith, d, g.invariant.1),
    )

pub returns : goal.returns
returns c =
    let g = c.loop-t in
    let n = (snap_of c.args.db.now.records.words.now c.args.db.now.area.now c.args.db.now.records.layout) in (
      climb_here n c.args.viewer
          (climb_falls n (accepted_tree c.args.db.now.records.words.now
          (snap_of c.args.db.now.records.words.now c.args.db.now.area.now c.args.db.now.records.layout) c.args.db.now.reads.same)
          c.args.viewer) g.t.0 (rw (length_modules c.args.db.now.records.words.now c.args.db.now.area.now c.args.db.now.records.layout) g.invariant.1)
          (sym c.map.ensures ∙ c.loop-t-test.false) ∙ sym g.invariant.0,
      g.invariant.1,
    )
