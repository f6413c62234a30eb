use Prim.Native.Nat.{◌<◌}
use mathlib.Core.Path.{◌≡◌}
use native.Mathlib.Omega.{arith}
use Rattle.imports.proofs.lists.Threading.{threads_none, threads_more, threads_key}
use Rattle.imports.proofs.lists.threads.thread_members.Goals as goal

pub loop-j-init : goal.loop-j-init
loop-j-init c = (omega arith, threads_none _ _ (rw c.member_heads_base-heads.ensures c.requires.by_index.0))

pub link-requires : goal.link-requires
link-requires c =
    let h = c.requires.by_index.1 c.loop-j.j c.loop-j-test.true in
    let e = c.member_parent-d.ensures in
    let b = c.member_base-base.ensures in
    let q : c.member_parent-d.result.0 < c.args.records.now.layout.definitions = rw (e, b) h in
    let x = c.member_heads_base-heads.ensures in
    let y = c.member_links_base-links.ensures in
    (omega (arith, c.loop-j.invariant.1.size), omega (arith, c.loop-j.invariant.1.size), omega arith)

pub loop-j-preserved : goal.loop-j-preserved
loop-j-preserved c =
    let h = c.requires.by_index.1 c.loop-j.j c.loop-j-test.true in
    let e = c.member_parent-d.ensures in
    let b = c.member_base-base.ensures in
    let q : c.member_parent-d.result.0 < c.args.records.now.layout.definitions = rw (e, b) h in
    let x = c.member_heads_base-heads.ensures in
    let y = c.member_links_base-links.ensures in
    (omega arith, threads_more c.loop-j.invariant.1 (omega arith) (omega arith) q e c.link.ensures)

pub returns : goal.returns
returns c =
    let e : c.loop-j.j ≡ c.args.records.now.layout.members = omega arith in
    threads_key _ (rw (e, c.member_heads_base-heads.ensures, c.member_links_base-links.ensures) at c.loop-j.invariant.1)
    (λ i h. rw c.member_base-base.ensures)
