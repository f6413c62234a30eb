use mathlib.Core.Path.{refl}
use Rattle.hir_def.specs.Items.{ns_of}
use Rattle.told_paths.proofs.arrivals.Means.{ready_few, ready_meant, leads_module, leads_keyword}
use Rattle.accept.specs.Opened.{snap_in}
use Rattle.told_paths.proofs.arrivals.arrivals.arrive_by_keyword.Goals as goal

pub row_of-requires : goal.row_of-requires
row_of-requires c =
    ready_few c.args.view.now _ c.requires

pub by_rows-requires : goal.by_rows-requires
by_rows-requires c = (
  ready_few c.args.view.now _ c.requires,
  ready_meant c.args.view.now _ c.requires,
)

pub returns-in-Mod : goal.returns-in-Mod
returns-in-Mod c =
    leads_module c.args.view.now _ c.requires _ _ c.in-Mod.is
    (c.row_of.ensures (snap_in c.args.view.now.db) c.args.view.now.from.0 c.args.view.now.db.records.layout.modules c.requires.rows)

pub returns-in-Def : goal.returns-in-Def
unfolding ns_of
returns-in-Def c =
    leads_keyword c.args.view.now _ c.requires _ _ _ refl
    c.in-Def.is c.by_rows.ensures
