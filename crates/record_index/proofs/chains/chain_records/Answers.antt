use Prim.Native.Nat.{◌-◌}
use mathlib.Core.Path.{◌≡◌, subst, ◌∙◌}
use native.Mathlib.Omega.{arith}
use Rattle.record_index.specs.Post.{Threaded}
use Rattle.record_index.proofs.Chaining.{threaded_start, threaded_next}
use Rattle.record_index.proofs.chains.chain_records.Goals as goal

pub loop-k-init : goal.loop-k-init
loop-k-init g c = (
  λ f q. threaded_start f c.args.area.now c.clear_heads.new.area c.args.count c.args.keys c.args.heads c.args.links
      c.requires.room.apart c.clear_heads.ensures,
  c.clear_heads.auto.area,
  omega arith,
)

pub loop-k-preserved : goal.loop-k-preserved
loop-k-preserved g c =
    let v = c.loop-k.invariant in
    let t = c.loop-k-test.true in
    let k = c.loop-k.k - 1 in (
      λ f q.
          threaded_next f c.args.area.now c.loop-k.area c.link.new.area c.args.count c.args.keys c.args.heads c.args.links c.key.result k c.loop-k.k
          (omega arith) (omega (arith, v.2)) (q k c.key.result c.key.ensures) c.link.ensures (v.0 f q),
      c.link.auto.area ∙ v.1,
      omega (arith, v.2),
    )

pub returns : goal.returns
returns g c =
    let v = c.loop-k.invariant in
    let e : c.loop-k.k ≡ 0 = omega (arith, c.loop-k-test.false) in
    λ f q. subst (λ k. Threaded c.args.area.now f c.args.count c.args.keys c.args.heads c.args.links k c.loop-k.area) e (v.0 f q)
