use mathlib.Core.Bool.{true}
use Rattle.told_paths.proofs.arrivals.Means.{ready_few, leads_module, leads_as}
use Rattle.accept.specs.Opened.{snap_in}
use Rattle.told_paths.proofs.arrivals.arrivals.arrive_plainly.Goals as goal

pub row_of-requires : goal.row_of-requires
row_of-requires c =
    ready_few c.args.view.now _ c.requires

pub returns-in-Mod : goal.returns-in-Mod
returns-in-Mod c =
    leads_module c.args.view.now _ c.requires _ _ c.in-Mod.is
    (c.row_of.ensures (snap_in c.args.view.now.db) c.args.view.now.from.0 c.args.view.now.db.records.layout.modules c.requires.rows)

pub returns-in-Def : goal.returns-in-Def
returns-in-Def c =
    leads_as (snap_in c.args.view.now.db) c.args.view.now.from.0 c.args.n c.args.view.now.db.area.now
    true _ _ _ c.in-Def.is c.plainly.ensures
