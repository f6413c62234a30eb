use Rattle.told_paths.proofs.shortest_paths.Laws.{enum_module, enum_as}
use Rattle.accept.specs.Opened.{snap_in}
use Rattle.told_paths.proofs.shortest_paths.by_enum.enum_told.Goals as goal

pub returns-in-Mod : goal.returns-in-Mod
returns-in-Mod c =
    enum_module c.args.named (snap_in c.args.view.now.db) c.args.view.now.from.0 _
    c.in-Mod.is

pub returns-in-Def : goal.returns-in-Def
returns-in-Def c =
    enum_as c.args.named (snap_in c.args.view.now.db) c.args.view.now.from.0 _ _
    c.in-Def.is c.variant_told.ensures
