use native.Mathlib.Omega.{arith}
use Rattle.imports.proofs.lists.Walks.{pushing_start, pushing_threaded, entry_known, pushing_room, pushing_next, pushing_falls}
use Rattle.imports.proofs.lists.Walks.{pushing_done}
use Rattle.imports.proofs.lists.walk.push_modules.Goals as goal

pub loop-at-init : goal.loop-at-init
loop-at-init c =
    pushing_start c.requires.0 c.requires.1 c.requires.2 c.word-at.ensures

pub push-t-requires : goal.push-t-requires
push-t-requires c =
    let n : _ = c.loop-at-test.true in (
      (pushing_threaded c.requires.0 c.loop-at.invariant).ready,
      pushing_room c.requires.0 c.loop-at.invariant (omega arith),
      entry_known c.requires.0 c.loop-at.invariant (omega arith) c.word-entry.ensures,
    )

pub loop-at-smaller : goal.loop-at-smaller
loop-at-smaller c =
    pushing_falls c.requires.0 c.loop-at.invariant (omega arith) c.push-t.ensures c.word-at-in-loop-at.ensures

pub loop-at-preserved : goal.loop-at-preserved
loop-at-preserved c =
    pushing_next c.requires.0 c.loop-at.invariant (omega arith) c.word-entry.ensures c.push-t.ensures c.word-at-in-loop-at.ensures

pub returns : goal.returns
returns c =
    pushing_done c.requires.0 c.loop-at.invariant c.requires.1 c.word-at.ensures (omega arith)
