use mathlib.Core.Path.{◌≡◌}
use native.Mathlib.Omega.{arith}
use Rattle.imports.proofs.lists.Threading.{threads_none, threads_more, owner_at_lem}
use Rattle.imports.proofs.lists.threads.thread_entries.Goals as goal

pub loop-j-init : goal.loop-j-init
loop-j-init c = (omega arith, threads_none _ _ c.requires.by_index.0)

pub link-requires : goal.link-requires
link-requires c =
    let e = owner_at_lem c.args.words.now c.args.area.now c.args.n c.loop-j.invariant.1 (omega arith) (omega arith)
    c.loop-j-test.true
    c.word-at.ensures c.scope_owner-m.ensures in
    let h = c.requires.by_index.1 c.loop-j.j c.loop-j-test.true in
    (omega (arith, c.loop-j.invariant.1.size), omega (arith, c.loop-j.invariant.1.size), omega arith)

pub loop-j-preserved : goal.loop-j-preserved
loop-j-preserved c =
    let t = c.loop-j-test.true in
    let e = owner_at_lem c.args.words.now c.args.area.now c.args.n c.loop-j.invariant.1 (omega arith) (omega arith) t
    c.word-at.ensures c.scope_owner-m.ensures in
    let h = c.requires.by_index.1 c.loop-j.j t in
    (omega arith, threads_more c.loop-j.invariant.1 (omega arith) (omega arith) (omega arith) e c.link.ensures)

pub returns : goal.returns
returns c =
    let e : c.loop-j.j ≡ c.args.n = omega arith in
    rw e at c.loop-j.invariant.1
