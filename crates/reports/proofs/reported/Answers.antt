use mathlib.Core.Path.{ap, ◌∙◌}
use Rattle.find_path_choice.specs.Given.{chosen, given}
use Rattle.find_path_choice.specs.Choices.{nothing}
use Rattle.find_path_choice.proofs.ChoiceLaws.{given_some}
use Rattle.reports.proofs.Laws.{reported_same, flag_is}
use Rattle.reports.proofs.reported.Goals as goal

pub returns-in_default : goal.returns-in_default
returns-in_default c =
    λ s q h. reported_same s q c.args.f nothing _ _ _ _ (ap given c.in_default.is) h
    (c.is_some.ensures ∙ given_some _ ∙ ap (λ o. (given o).found) c.in_default.is) (c.number.ensures ∙ c.outcome.ensures) (c.from.ensures ∙ flag_is _)

pub returns : goal.returns
returns c =
    λ s q h. reported_same s q c.args.f (chosen c.in-Some.c) _ _ _ _ (ap given c.in-Some.is) h
    (c.is_some.ensures ∙ given_some _ ∙ ap (λ o. (given o).found) c.in-Some.is) (c.number.ensures ∙ c.outcome.ensures) (c.from.ensures ∙ flag_is _)
