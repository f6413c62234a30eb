use Rattle.check_records.proofs.record_rules.Laws.{judge_32, judge_33, judge_34, judge_35, judge_36, judge_0}
use Rattle.check_records.proofs.record_rules.judge.judge.Goals as goal

pub returns-then-not-range : goal.returns-then-not-range
returns-then-not-range c = judge_32 _ _ _ _ _ c.if-not-range.true

pub returns-then-not-defined : goal.returns-then-not-defined
returns-then-not-defined c = judge_33 _ _ _ _ _ c.if-not-range.false c.if-not-defined.true

pub returns-then-repeated : goal.returns-then-repeated
returns-then-repeated c = judge_34 _ _ _ _ _ c.if-not-range.false c.if-not-defined.false c.if-repeated.true

pub returns-then-not-placed : goal.returns-then-not-placed
returns-then-not-placed c = judge_35 _ _ _ _ _ c.if-not-range.false c.if-not-defined.false
    c.if-repeated.false c.if-not-placed.true

pub returns-then-not-room : goal.returns-then-not-room
returns-then-not-room c = judge_36 _ _ _ _ _ c.if-not-range.false c.if-not-defined.false
    c.if-repeated.false c.if-not-placed.false c.if-not-room.true

pub returns : goal.returns
returns c = judge_0 _ _ _ _ _ c.if-not-range.false c.if-not-defined.false
    c.if-repeated.false c.if-not-placed.false c.if-not-room.false
