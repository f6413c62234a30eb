use mathlib.Core.Path.{ap, ◌∙◌}
use mathlib.Core.Bool.{◌||◌}
use Rattle.find_path_choice.specs.Choices.{extended, push}
use Rattle.find_path_choice.specs.Given.{chosen}
use Rattle.accept.specs.Opened.{snap_in}
use Rattle.find_path_choice.proofs.Choice.push.Goals as goal

pub returns : goal.returns
unfolding push
returns c =
    let n = snap_in c.args.db.now in
    c.extended.ensures ∙ ap (λ b. extended n (chosen c.args.self) c.args.n.0 c.args.via (c.args.self.has_prelude_segment || b))
    c.is_prelude-flag.ensures
