use native.Mathlib.Omega.{arith}
use Rattle.snapshot.specs.Limits.{area_limit}
use Rattle.answer.proofs.checked.Laws.{much, outside, beyond, no_fault}
use Rattle.answer.proofs.checked.faults.call_fault.Goals as goal

pub returns-then-fuel-gt-LIMIT : goal.returns-then-fuel-gt-LIMIT
returns-then-fuel-gt-LIMIT c = much area_limit _ _ (omega arith) c.if-fuel-gt-LIMIT.true

pub returns-then-field : goal.returns-then-field
returns-then-field c = outside area_limit _ _ (omega arith) c.if-fuel-gt-LIMIT.false c.if-field.true

pub returns-then-limit : goal.returns-then-limit
returns-then-limit c = beyond area_limit _ _ (omega arith) c.if-fuel-gt-LIMIT.false c.if-field.false c.if-limit.true

pub returns : goal.returns
returns c = no_fault area_limit _ _ (omega arith) c.if-fuel-gt-LIMIT.false c.if-field.false c.if-limit.false
