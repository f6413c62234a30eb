use Prim.Native.Nat.{◌+◌}
use mathlib.Core.Path.{◌∙◌, ap}
use Rattle.join.proofs.new_numbers.read.new_map.Goals as goal

pub returns : goal.returns
returns c = λ s t e h g. c.after.ensures h g ∙ ap (λ k. k + c.args.number) e
