use mathlib.Core.Path.{◌∙◌}
use Rattle.read_back.specs.readings.Reads.{later_name}
use Rattle.read_back.proofs.Cases.{after_none, after_some}
use Rattle.accept.specs.Opened.{snap_in}
use Rattle.read_back.proofs.names.next_name.Goals as goal

pub returns-in_err-x : goal.returns-in_err-x
returns-in_err-x c =
    c.from_residual.ensures
    ∙ after_none (later_name (snap_in c.args.view.now.db) c.args.view.now.from.0 c.args.ns c.args.name.0)
    (c.in_err-x.was)

pub returns : goal.returns
returns c =
    after_some (later_name (snap_in c.args.view.now.db) c.args.view.now.from.0 c.args.ns c.args.name.0)
    (c.in_ok-x.was) c.later_name.ensures
