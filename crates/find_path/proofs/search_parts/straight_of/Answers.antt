use Rattle.snapshot.specs.Ids.{plus_one}
use Rattle.find_path.proofs.search_parts.Parts.{straight_std, straight_module, straight_other}
use Rattle.find_path.proofs.search_parts.straight_of.Goals as goal

pub returns-then-std : goal.returns-then-std
unfolding plus_one
returns-then-std c = straight_std _ _ c.if-std.true

pub returns-in-Mod : goal.returns-in-Mod
unfolding plus_one
returns-in-Mod c = straight_module _ c.if-std.false c.in-Mod.is

pub returns-in-Def : goal.returns-in-Def
unfolding plus_one
returns-in-Def c = straight_other _ c.if-std.false c.in-Def.is
