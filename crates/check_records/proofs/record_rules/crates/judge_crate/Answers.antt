use Rattle.check_records.proofs.record_rules.Laws.{crate_32, crate_43, crate_36, crate_0}
use Rattle.check_records.proofs.record_rules.crates.judge_crate.Goals as goal

pub returns-then-not-range : goal.returns-then-not-range
returns-then-not-range c = crate_32 _ _ _ c.if-not-range.true

pub returns-then-not-edition : goal.returns-then-not-edition
returns-then-not-edition c = crate_43 _ _ _ c.if-not-range.false c.if-not-edition.true

pub returns-then-not-room : goal.returns-then-not-room
returns-then-not-room c = crate_36 _ _ _ c.if-not-range.false c.if-not-edition.false c.if-not-room.true

pub returns : goal.returns
returns c = crate_0 _ _ _ c.if-not-range.false c.if-not-edition.false c.if-not-room.false
