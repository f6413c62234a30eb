-- What a name alone means, as a program looks it up; and the names alone that mean modules.
use Rattle.std.specs.Prelude.{ℕ, suc, List, map, Bool, true, false, eqb}
use Rattle.std.specs.Prelude.{Option, None, Some}
use Rattle.snapshot.specs.Records.{Snapshot, Scope, Prelude, Extern, scope_at, extern_at}
use Rattle.module_tree.specs.rules.Modules.{map_no, crate_of}
use Rattle.hir_def.specs.Finds.{first_some, select}
use Rattle.hir_def.specs.Items.{types}
use Rattle.hir_def.specs.Nameres.{prelude_of}
use Rattle.hir_def.specs.declared.Item.{Item}
use Rattle.hir_def.specs.declared.Item.TheVariants.{Mod, Def}
use Rattle.nameable.specs.Paths.{Path, plain, Named, as_named, extern_named, scopes_from}
use Rattle.nameable.specs.Queue.{seen_named}
use Rattle.read_back.specs.readings.Reads.{extern_named as extern_of_name}
use Rattle.any_path.specs.declared.plain.Reading.{Reading}
use Rattle.any_path.specs.declared.plain.Reading.TheVariants.{Scope as ByScope, Extern as ByExtern}

-- the nearest seen entry in the viewer's scope or around its blocks
unfoldable pub scopes_named : Snapshot → ℕ → ℕ → ℕ → Option Scope
scopes_named s from ns n = first_some (λ m. seen_named s from ns m n) (scopes_from s from)

-- the extern of the viewer's crate, in types
unfoldable pub externs_named : Snapshot → ℕ → ℕ → ℕ → Option Extern
externs_named s from ns n = elim (eqb ns types) [ true ↦ extern_of_name s (crate_of s from) n | false ↦ None ]

-- the seen entry of the prelude

unfoldable pub named_in : Snapshot → ℕ → ℕ → ℕ → Option Prelude → Option Scope
named_in s from ns n None = None
named_in s from ns n (Some p) = seen_named s from ns p.target n

unfoldable pub prelude_named : Snapshot → ℕ → ℕ → ℕ → Option Scope
prelude_named s from ns n = named_in s from ns n (prelude_of s (map_no s from))

-- what the record at the place that is answered says
unfoldable pub record_read : Snapshot → List ℕ → Option Reading → Option Named
record_read s W (Some (ByScope h)) = Some (as_named s (scope_at W h))
record_read s W (Some (ByExtern h)) = Some (extern_named (extern_at W h))
record_read s W None = None

-- the module +1 that is meant, 0 for none

unfoldable pub module_no : Item → ℕ
module_no (Mod m) = suc m.0
module_no (Def ns d) = 0

unfoldable pub module_in : Option Named → ℕ
module_in None = 0
module_in (Some x) = module_no x.item

-- the names alone of those that are modules

unfoldable pub is_module : Item → Bool
is_module (Mod m) = true
is_module (Def ns d) = false

unfoldable pub names_alone : List Named → List Path
names_alone xs = map (λ x. plain x.name) (select (λ x. is_module x.item) xs)
