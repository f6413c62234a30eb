use native.Mathlib.Omega.{arith}
use Rattle.find_path_rules.proofs.path_context.ContextLaws.{in_module_lem, in_none}
use Rattle.find_path_rules.proofs.path_context.module_in.Goals as goal

pub overflow_add-result : goal.overflow_add-result
overflow_add-result c =
    omega (arith, c.requires, in_module_lem c.args.item _ c.in-Mod.is)

pub returns-in-Mod : goal.returns-in-Mod
returns-in-Mod c = in_module_lem _ _ c.in-Mod.is

pub returns-in-Def : goal.returns-in-Def
returns-in-Def c = in_none _ _ _ c.in-Def.is
