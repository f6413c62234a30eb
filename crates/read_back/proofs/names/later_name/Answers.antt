use Rattle.read_back.proofs.Cases.{later_module, later_other}
use Rattle.accept.specs.Opened.{snap_in}
use Rattle.read_back.proofs.names.later_name.Goals as goal

pub returns-in-Mod : goal.returns-in-Mod
returns-in-Mod c =
    later_module (snap_in c.args.view.now.db) c.args.view.now.from.0 c.args.ns c.args.name.0
    c.in-Mod.is c.in_scope.ensures

pub returns-in-Def : goal.returns-in-Def
returns-in-Def c =
    later_other (snap_in c.args.view.now.db) c.args.view.now.from.0 c.args.ns c.args.name.0
    c.in-Def.is (c.in_enum.ensures c.args.view.now.db.area.now)
