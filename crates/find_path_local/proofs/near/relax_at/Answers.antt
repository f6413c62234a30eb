use mathlib.Core.Path.{◌∙◌}
use native.Mathlib.Omega.{arith}
use Rattle.find_path_local.proofs.near.Falling.{falls_none}
use Rattle.find_path_local.proofs.near.relax_at.Goals as goal

pub returns-then-word-d : goal.returns-then-word-d
returns-then-word-d c = (falls_none _ _ _, λ e. absurd (c.if-word-d.true (c.word.ensures ∙ e)))

pub relax_scope-requires : goal.relax_scope-requires
relax_scope-requires c = (c.requires.0, omega (arith, c.requires.1))

pub returns : goal.returns
returns c = (c.relax_scope.ensures.0, λ _. c.relax_scope.ensures.1)
