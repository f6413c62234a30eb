use Rattle.told_paths.proofs.told_routes.Laws.{within_module, within_other}
use Rattle.accept.specs.Opened.{snap_in}
use Rattle.told_paths.proofs.told_routes.names.in_item.Goals as goal

pub returns-in-Mod : goal.returns-in-Mod
returns-in-Mod c =
    let S = snap_in c.args.view.now.db in
    within_module S c.args.view.now.from.0 c.args.ns c.args.name.0 _ c.in-Mod.is c.in_module.ensures

pub returns-in-Def : goal.returns-in-Def
returns-in-Def c =
    let S = snap_in c.args.view.now.db in
    within_other S c.args.view.now.from.0 c.args.ns c.args.name.0 _ _ c.in-Def.is c.in_enum.ensures
