use native.Mathlib.Omega.{arith}
use Rattle.find_path_levels.proofs.Rows.{has_start, has_hit, has_miss, has_end}
use Rattle.find_path_levels.proofs.levels.has.Goals as goal

pub loop-i-init : goal.loop-i-init
loop-i-init c =
    (omega arith, has_start c.args.area.now _ _ _)

pub returns-then-m-word : goal.returns-then-m-word
returns-then-m-word c =
    has_hit c.args.area.now _ _ _ _ c.loop-i.invariant.1 c.loop-i-test.true c.word.ensures c.if-m-word.true

pub loop-i-preserved : goal.loop-i-preserved
loop-i-preserved c = (
  omega arith,
  has_miss c.args.area.now _ _ _ _ c.loop-i.invariant.1 c.loop-i-test.true c.word.ensures
      c.if-m-word.false,
)

pub returns : goal.returns
returns c =
    has_end c.args.area.now _ _ _ _ c.loop-i.invariant.1 c.loop-i-test.false
