use mathlib.Core.Path.{sym, ◌∙◌}
use Rattle.told_paths.proofs.Laws.{shorter_second, shorter_first, shorter_less, shorter_keeps}
use Rattle.told_paths.proofs.paths.shorter.Goals as goal

pub returns-in_default : goal.returns-in_default
returns-in_default c = λ p q ea eb. shorter_second p q ea eb c.in_default.is

pub returns-in_default-b : goal.returns-in_default-b
returns-in_default-b c = λ p q ea eb. sym c.in-Some.is ∙ shorter_first p q ea eb c.in_default-b.is

pub returns-then-second-first : goal.returns-then-second-first
returns-then-second-first c =
    λ p q ea eb. sym c.in-Some-b.is ∙ shorter_less p q ea eb c.in-Some.is c.in-Some-b.is c.if-second-first.true

pub returns : goal.returns
returns c =
    λ p q ea eb. sym c.in-Some.is ∙ shorter_keeps p q ea eb c.in-Some.is c.in-Some-b.is c.if-second-first.false
