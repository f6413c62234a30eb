use Prim.Native.Nat.{◌+◌}
use mathlib.Core.Path.{ap₂}
use Rattle.find_path_choice.proofs.ChoiceLaws.{new_same}
use Rattle.accept.specs.Opened.{snap_in}
use Rattle.find_path_choice.proofs.Choice.new.Goals as goal

pub returns : goal.returns
returns c =
    new_same (snap_in c.args.db.now) c.args.kind c.args.n.0 c.args.via
    (ap₂ (λ x y. x + y) c.path_kind_len.ensures.0 c.name_len.ensures.0) c.is_prelude-prelude.ensures
