use mathlib.Core.Path.{refl, sym, ap, ◌∙◌}
use Rattle.find_path_choice.specs.Choices.{length_left}
use Rattle.find_path_choice.specs.Given.{chosen, given}
use Rattle.find_path_choice.proofs.ChoiceLaws.{left_none, left_less, left_more}
use Rattle.find_path_choice.proofs.choices.length_left.Goals as goal

pub returns-in_default : goal.returns-in_default
returns-in_default c =
    c.saturating_sub.ensures ∙ left_none c.args.left (given c.args.best) (ap (λ o. (given o).found) c.in_default.is)

pub returns-then-n-left : goal.returns-then-n-left
returns-then-n-left c =
    c.saturating_sub-then-n-left.ensures ∙ left_less c.args.left _ (chosen c.in-Some.c) refl
    c.path_len-n.ensures.0 c.if-n-left.true
    ∙ sym (ap (λ o. length_left c.args.left (given o)) c.in-Some.is)

pub returns : goal.returns
returns c =
    c.saturating_sub-2.ensures ∙ left_more c.args.left _ (chosen c.in-Some.c) refl
    c.path_len-n.ensures.0 c.if-n-left.false
    ∙ sym (ap (λ o. length_left c.args.left (given o)) c.in-Some.is)
