use native.Mathlib.Omega.{arith}
use Rattle.keywords.proofs.Laws.{in_none, in_first, in_second, in_third}
use Rattle.keywords.proofs.keywords_in.Goals as goal

pub returns-then-edition-lt2015 : goal.returns-then-edition-lt2015
returns-then-edition-lt2015 c = (in_none _ c.if-edition-lt2015.true, omega arith)

pub returns-then-edition-lt2018 : goal.returns-then-edition-lt2018
returns-then-edition-lt2018 c = (in_first _ c.if-edition-lt2015.false c.if-edition-lt2018.true, omega arith)

pub returns-then-edition-lt2024 : goal.returns-then-edition-lt2024
returns-then-edition-lt2024 c = (in_second _ c.if-edition-lt2015.false c.if-edition-lt2018.false c.if-edition-lt2024.true, omega arith)

pub returns : goal.returns
returns c = (in_third _ c.if-edition-lt2015.false c.if-edition-lt2018.false c.if-edition-lt2024.false, omega arith)
