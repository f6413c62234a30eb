use mathlib.Core.Path.{sym, ◌∙◌}
use native.Mathlib.Omega.{arith}
use Rattle.snapshot.specs.Layouts.{snap_of}
use Rattle.module_tree.proofs.Reading.{length_modules}
use Rattle.accept.proofs.Trees.{accepted_tree}
use Rattle.module_tree.proofs.Chains.{containing_falls}
use Rattle.module_tree.proofs.Climbs.{some_number, none_number, meets_here, meets_end, meets_on}
use Rattle.module_tree.proofs.visibility.meets.Goals as goal

pub returns-in_default : goal.returns-in_default
returns-in_default c =
    let g = c.loop-v in
    let n = (snap_of c.args.db.now.records.words.now c.args.db.now.area.now c.args.db.now.records.layout) in
    meets_end n (containing_falls n
    (accepted_tree c.args.db.now.records.words.now (snap_of c.args.db.now.records.words.now c.args.db.now.area.now c.args.db.now.records.layout)
    c.args.db.now.reads.same)) g.v.0 c.args.target.0
    (rw (length_modules c.args.db.now.records.words.now c.args.db.now.area.now c.args.db.now.records.layout)
    g.invariant.1) c.loop-v-test.true (none_number _ c.containing_module.ensures c.in_default.is)
    ∙ sym g.invariant.0

pub loop-v-smaller : goal.loop-v-smaller
loop-v-smaller c =
    let g = c.loop-v in
    let n = (snap_of c.args.db.now.records.words.now c.args.db.now.area.now c.args.db.now.records.layout) in
    containing_falls n (accepted_tree c.args.db.now.records.words.now
    (snap_of c.args.db.now.records.words.now c.args.db.now.area.now c.args.db.now.records.layout) c.args.db.now.reads.same)
    g.v.0 _ (rw (length_modules c.args.db.now.records.words.now c.args.db.now.area.now c.args.db.now.records.layout) g.invariant.1)
    (some_number _ c.containing_module.ensures c.in-Some.is)

pub loop-v-preserved : goal.loop-v-preserved
loop-v-preserved c =
    let g = c.loop-v in
    let n = (snap_of c.args.db.now.records.words.now c.args.db.now.area.now c.args.db.now.records.layout) in
    let f = containing_falls n
    (accepted_tree c.args.db.now.records.words.now (snap_of c.args.db.now.records.words.now c.args.db.now.area.now c.args.db.now.records.layout)
    c.args.db.now.reads.same) in
    let e = some_number _ c.containing_module.ensures c.in-Some.is in (
      g.invariant.0 ∙ meets_on n f g.v.0 c.args.target.0
          (rw (length_modules c.args.db.now.records.words.now c.args.db.now.area.now c.args.db.now.records.layout)
          g.invariant.1) c.loop-v-test.true _ e,
      omega (
        arith,
        f g.v.0 _ (rw (length_modules c.args.db.now.records.words.now c.args.db.now.area.now c.args.db.now.records.layout) g.invariant.1)
            e,
        g.invariant.1,
      ),
    )

pub returns : goal.returns
returns c =
    let g = c.loop-v in
    let n = (snap_of c.args.db.now.records.words.now c.args.db.now.area.now c.args.db.now.records.layout) in
    meets_here n (containing_falls n
    (accepted_tree c.args.db.now.records.words.now (snap_of c.args.db.now.records.words.now c.args.db.now.area.now c.args.db.now.records.layout)
    c.args.db.now.reads.same)) g.v.0 c.args.target.0
    (rw (length_modules c.args.db.now.records.words.now c.args.db.now.area.now c.args.db.now.records.layout)
    g.invariant.1) c.loop-v-test.false ∙ sym g.invariant.0
