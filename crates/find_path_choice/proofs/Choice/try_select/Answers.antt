use mathlib.Core.Path.{refl, sym, ap, ◌∙◌}
use Rattle.find_path_choice.specs.Choices.{try_select}
use Rattle.find_path_choice.specs.Given.{chosen, given}
use Rattle.find_path_choice.proofs.ChoiceLaws.{select_first, select_new, select_old}
use Rattle.accept.specs.Opened.{snap_in}
use Rattle.find_path_choice.proofs.Choice.try_select.Goals as goal

pub returns-in_default : goal.returns-in_default
returns-in_default c =
    c.push.ensures ∙ select_first (snap_in c.args.db.now) c.args.prefer
    (given c.args.best) (chosen c.args.other) c.args.n.0 c.args.via (ap (λ o. (given o).found) c.in_default.is)

pub returns-then-better : goal.returns-then-better
returns-then-better c =
    c.extended.ensures ∙ select_new (snap_in c.args.db.now) c.args.prefer
    (chosen c.in-Some.current) (chosen c.args.other) c.args.n.0 c.args.via refl
    (sym c.better.ensures ∙ c.if-better.true)
    ∙ sym (ap (λ o. try_select (snap_in c.args.db.now) c.args.prefer (given o) (chosen c.args.other) c.args.n.0 c.args.via) c.in-Some.is)

pub returns : goal.returns
returns c =
    select_old (snap_in c.args.db.now) c.args.prefer (chosen c.in-Some.current) (chosen c.args.other)
    c.args.n.0 c.args.via refl (sym c.better.ensures ∙ c.if-better.false)
    ∙ sym (ap (λ o. try_select (snap_in c.args.db.now) c.args.prefer (given o) (chosen c.args.other) c.args.n.0 c.args.via) c.in-Some.is)
