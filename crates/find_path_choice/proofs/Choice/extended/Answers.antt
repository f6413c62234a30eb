use Prim.Native.Nat.{◌+◌}
use mathlib.Core.Path.{ap}
use Rattle.find_path_choice.proofs.ChoiceLaws.{extended_same}
use Rattle.find_path_choice.specs.Given.{chosen}
use Rattle.accept.specs.Opened.{snap_in}
use Rattle.find_path_choice.proofs.Choice.extended.Goals as goal

pub returns : goal.returns
returns c =
    extended_same (snap_in c.args.db.now) (chosen c.args.self) c.args.n.0 c.args.via
    c.args.flag (ap (λ x. c.args.self.path_text_len + x) c.name_len.ensures.0)
