use Prim.Native.Nat.{◌<◌}
use mathlib.Core.Path.{refl, sym}
use native.Mathlib.Omega.{arith}
use Rattle.imports.proofs.lists.Writing.{space_first, space_as, wrote_as, going_start, going_next, going_done, imports_end}
use Rattle.imports.proofs.lists.Writing.{imports_first, imports_next, entry_listed}
use Rattle.imports.proofs.lists.write.put_module.Goals as goal

pub loop-k-init : goal.loop-k-init
loop-k-init c =
    let q = imports_first c.requires.threaded.0 c.args.c.0 c.requires.threaded.2 c.word-k.ensures in
    (q.1, going_start (space_as c.requires.space (sym q.0)))

pub put_entry-t-requires : goal.put_entry-t-requires
put_entry-t-requires c =
    let some : 0 < c.loop-k.k = omega (arith, c.loop-k-test.true) in
    let e = c.word-entry.ensures in
    let w = c.loop-k.invariant in
    record {
      listed = entry_listed c.requires.threaded.0 c.args.c.0 w.0 some e c.requires.threaded.1;
      space = space_first w.1.space (imports_next c.requires.threaded.0 c.args.c.0 w.0 some e refl).0;
    }

pub loop-k-smaller : goal.loop-k-smaller
loop-k-smaller c =
    let some : 0 < c.loop-k.k = omega (arith, c.loop-k-test.true) in
    let e = c.word-entry.ensures in
    (imports_next c.requires.threaded.0 c.args.c.0 c.loop-k.invariant.0 some e c.word-k-in-loop-k.ensures).1

pub loop-k-preserved : goal.loop-k-preserved
loop-k-preserved c =
    let some : 0 < c.loop-k.k = omega (arith, c.loop-k-test.true) in
    let e = c.word-entry.ensures in
    let q = imports_next c.requires.threaded.0 c.args.c.0 c.loop-k.invariant.0 some e c.word-k-in-loop-k.ensures in
    let h = q.1 in
    let z = c.loop-k.invariant.0 in
    (omega arith, going_next c.loop-k.invariant.1 q.0 c.put_entry-t.ensures)

pub returns : goal.returns
returns c =
    let q = imports_first c.requires.threaded.0 c.args.c.0 c.requires.threaded.2 c.word-k.ensures in
    let db = c.args.db.now in
    let z = imports_end db.records.words.now db.area.now db.records.layout c.args.n c.args.c.0 c.loop-k.k c.loop-k-test.false in
    wrote_as (going_done c.loop-k.invariant.1 z) q.0
