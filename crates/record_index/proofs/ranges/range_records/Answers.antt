use mathlib.Core.Path.{◌≡◌, sym, subst, ◌∙◌}
use native.Mathlib.Omega.{arith}
use Rattle.record_index.specs.Ranges.{Ranged}
use Rattle.record_index.proofs.Ranging.{ranging_start}
use Rattle.record_index.proofs.ranges.range_records.Goals as goal

pub loop-k-init : goal.loop-k-init
loop-k-init g c = (
  λ f q. ranging_start f c.args.area.now c.clear_ends.new.area c.args.crates c.args.at c.clear_ends.ensures,
  c.clear_ends.ensures.below,
  c.clear_ends.auto.area,
  omega arith,
)

pub note-requires : goal.note-requires
note-requires g c =
    let v = c.loop-k.invariant in
    let known = c.requires.there c.loop-k.k c.owner.result c.loop-k-test.true c.owner.ensures in (
      omega (arith, known, c.requires.room.0),
      omega (arith, c.requires.room.1, v.2),
      c.requires.room.2,
      omega (arith, c.loop-k-test.true, c.requires.room.3),
    )

pub loop-k-preserved : goal.loop-k-preserved
loop-k-preserved g c =
    let v = c.loop-k.invariant in (
      λ f q. c.note.ensures.ranging f c.args.crates c.requires.room.0 (sym (q c.loop-k.k c.owner.result c.owner.ensures)) (v.0 f q),
      c.note.ensures.below ∙ v.1,
      c.note.auto.area ∙ v.2,
      omega (arith, c.loop-k-test.true),
    )

pub returns : goal.returns
returns g c =
    let v = c.loop-k.invariant in
    let e : c.loop-k.k ≡ c.args.count = omega (arith, v.3, c.loop-k-test.false) in
    λ f q. record { ranged = subst (λ n. Ranged f n c.args.crates c.args.at c.loop-k.area) e (v.0 f q).ranged; below = v.1 }
