use Rattle.told_paths.proofs.told_routes.Laws.{start_crate, start_above}
use Rattle.accept.specs.Opened.{snap_in}
use Rattle.told_paths.proofs.told_routes.starts.start.Goals as goal

pub returns-in-Crate : goal.returns-in-Crate
returns-in-Crate c =
    let S = snap_in c.args.view.now.db in
    start_crate S c.args.view.now.from.0 c.args.kind c.args.supers _ c.in-Crate.is c.crate_root.ensures

pub returns-in-Plain : goal.returns-in-Plain
returns-in-Plain c =
    let S = snap_in c.args.view.now.db in
    start_above S c.args.view.now.from.0 c.args.kind c.args.supers c.in-Plain.is c.module_around.ensures.0 c.above.ensures
