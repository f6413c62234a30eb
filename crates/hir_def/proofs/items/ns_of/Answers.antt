use mathlib.Core.Path.{sym, ap}
use Rattle.hir_def.specs.Items.{ns_of}
use Rattle.hir_def.proofs.items.ns_of.Goals as goal

pub returns-in-Mod : goal.returns-in-Mod
unfolding ns_of
returns-in-Mod c = sym (ap ns_of c.in-Mod.is)

pub returns-in-Def : goal.returns-in-Def
unfolding ns_of
returns-in-Def c = sym (ap ns_of c.in-Def.is)
