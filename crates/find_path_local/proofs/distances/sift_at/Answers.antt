use mathlib.Core.Path.{sym, ap, ◌∙◌}
use native.Mathlib.Omega.{arith}
use Rattle.find_path_choice.specs.Choices.{Choice}
use Rattle.find_path_choice.proofs.ChoiceLaws.{given_some}
use Rattle.find_path_local.proofs.distances.Relaxing.{sifted, sifted_none}
use Rattle.find_path_local.proofs.distances.sift_at.Goals as goal

pub returns-then-word-gt1 : goal.returns-then-word-gt1
returns-then-word-gt1 c = sifted_none _ _ _ _

pub returns-then-is_some : goal.returns-then-is_some
returns-then-is_some c = sifted_none _ _ _ _

pub returns : goal.returns
returns c =
    sifted c.args.records.now.words.now c.args.area.now c.args.records.now.layout c.args.x c.args.m.0
    (omega (arith, c.requires.2, c.requires.0.reads.tables.limited.modules, c.requires.0.area))
    (omega (arith, c.requires.2, c.requires.0.reads.tables.limited.modules))
    (ap (λ (z : Choice). z.found) (sym c.module_rules.ensures) ∙ sym (given_some _) ∙ sym c.is_some.ensures ∙ c.if-is_some.false)
