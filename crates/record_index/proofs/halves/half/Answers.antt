use Prim.Native.Nat.{◌%◌}
use mathlib.Core.Path.{ap, ◌∙◌}
use native.Mathlib.Omega.{arith}
use Rattle.record_index.specs.Halves.{half_of}
use Rattle.record_index.proofs.Halving.{first_half, second_half}
use Rattle.record_index.proofs.halves.half.Goals as goal

pub returns-then-i-eq0 : goal.returns-then-i-eq0
returns-then-i-eq0 c = (
  first_half c.word-w.result c.if-i-eq0.true ∙ ap (half_of (c.args.i % 2)) c.word-w.ensures,
  omega arith,
)

pub returns : goal.returns
returns c = (
  second_half c.word-w.result (λ e. absurd (c.if-i-eq0.false e)) ∙ ap (half_of (c.args.i % 2)) c.word-w.ensures,
  omega arith,
)
