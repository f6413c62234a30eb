use native.Mathlib.Omega.{arith}
use Rattle.snapshot.proofs.Laws.{rows_whole}
use Rattle.edit_rules.specs.Written.{joined}
use Rattle.join.specs.records.Moves.{kind_to, kinds}
use Rattle.join.proofs.records.Laws.{going_start, going_space, going_next, going_done, joined_next, joined_end}
use Rattle.join.proofs.records.write.put_kinds.Goals as goal

pub loop-k-init : goal.loop-k-init
loop-k-init c = (
  omega arith,
  going_start c.args.write 0 c.args.target.now
      (rows_whole joined (kind_to c.args.area.now c.args.parts.now.first.layout c.args.parts.now.second.layout c.args.parts.now.first.words.now
      c.args.parts.now.second.words.now) kinds),
)

pub put_kind-to-requires : goal.put_kind-to-requires
put_kind-to-requires c = let t = c.loop-k-test.true in record {
  whole = (c.requires.whole, t);
  space = going_space c.loop-k.invariant.1 _ _
      (joined_next (kind_to c.args.area.now c.args.parts.now.first.layout c.args.parts.now.second.layout c.args.parts.now.first.words.now
      c.args.parts.now.second.words.now) c.loop-k.k kinds t)
      c.requires.space;
}

pub loop-k-preserved : goal.loop-k-preserved
loop-k-preserved c =
    let t = c.loop-k-test.true in (
      omega arith,
      going_next c.loop-k.invariant.1
          (joined_next (kind_to c.args.area.now c.args.parts.now.first.layout c.args.parts.now.second.layout c.args.parts.now.first.words.now
          c.args.parts.now.second.words.now) c.loop-k.k kinds t)
          c.put_kind-to.ensures,
    )

pub returns : goal.returns
returns c =
    going_done c.loop-k.invariant.1
    (joined_end (kind_to c.args.area.now c.args.parts.now.first.layout c.args.parts.now.second.layout c.args.parts.now.first.words.now
    c.args.parts.now.second.words.now)
    c.loop-k.k kinds c.loop-k-test.false)
