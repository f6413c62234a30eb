use Rattle.any_path.proofs.Plains.{mod_is, def_is}
use Rattle.any_path.proofs.plain.entry_module.Goals as goal

pub returns-in-Mod : goal.returns-in-Mod
returns-in-Mod c = λ A. mod_is _ c.in-Mod.is (c.item_at.ensures A)

pub returns-in-Def : goal.returns-in-Def
returns-in-Def c = λ A. def_is c.in-Def.is (c.item_at.ensures A)
