use mathlib.Core.Path.{sym, ap, subst}
use native.Mathlib.Omega.{arith}
use Rattle.hir_def.specs.declared.Item.TheVariants.{Mod, Def}
use Rattle.find_path_levels.specs.Levels.{Small, code_of}
use Rattle.find_path_levels.proofs.levels.code_of.Goals as goal

pub overflow_mul-result : goal.overflow_mul-result
overflow_mul-result c =
    let p : Small (Mod c.in-Mod.m) = subst Small c.in-Mod.is c.args.sought.small in
    record { fits = omega (arith, p) }

pub overflow_add-result : goal.overflow_add-result
overflow_add-result c =
    let p : Small (Mod c.in-Mod.m) = subst Small c.in-Mod.is c.args.sought.small in
    record { fits = omega (arith, p) }

pub overflow_mul-result-in-Def : goal.overflow_mul-result-in-Def
overflow_mul-result-in-Def c =
    let p : Small (Def c.in-Def.ns c.in-Def.d) = subst Small c.in-Def.is c.args.sought.small in
    record { fits = omega (arith, p.0) }

pub overflow_add-result-in-Def : goal.overflow_add-result-in-Def
overflow_add-result-in-Def c =
    let p : Small (Def c.in-Def.ns c.in-Def.d) = subst Small c.in-Def.is c.args.sought.small in
    record { fits = omega (arith, p.0, p.1) }

pub returns-in-Mod : goal.returns-in-Mod
unfolding code_of
returns-in-Mod c =
    let p : Small (Mod c.in-Mod.m) = subst Small c.in-Mod.is c.args.sought.small in
    (sym (ap code_of c.in-Mod.is), omega (arith, p))

pub returns-in-Def : goal.returns-in-Def
unfolding code_of
returns-in-Def c =
    let p : Small (Def c.in-Def.ns c.in-Def.d) = subst Small c.in-Def.is c.args.sought.small in
    (sym (ap code_of c.in-Def.is), omega (arith, p.0, p.1))
