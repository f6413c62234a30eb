-- The parts of the charged search at the tank, over the finished search; and what its steps pass on.
use Rattle.std.specs.Prelude.{ℕ, ◌+◌, ◌≤◌, ◌<◌, ◌^◌, List, Bool, true, false}
use Rattle.snapshot.specs.Limits.{path_limit}
use Rattle.snapshot.specs.Records.{Snapshot, Dependency, Import}
use Rattle.snapshot.specs.declared.layout.Layout.{Layout}
use Rattle.hir_def.specs.Nameres.{lang_of}
use Rattle.hir_def.specs.declared.Item.{Item}
use Rattle.find_path_spec.specs.declared.Tank.{Tank}
use Rattle.find_path_spec.specs.declared.FindPathCtx.{FindPathCtx}
use Rattle.find_path_spec.specs.Meters.{from_tank}
use Rattle.find_path_spec.specs.Charged.{Out, Search, one_or_none, find_import, find_imports, find_in_deps, find_in_sysroot, calculate_best_path}
use Rattle.find_path_spec.specs.Search.{best_local, search_module}
use Rattle.find_path_spec.specs.Conditions.{Prepared}

module _ (s : Snapshot) (x : FindPathCtx) where
  -- the search for a module, and for an item by a charged search

  abbrev pub modules : Search Tank
  modules = search_module Tank from_tank s x

  abbrev pub best_path : ℕ → Item → Tank → Out Tank
  best_path = calculate_best_path Tank from_tank s x (best_local s x) modules

  -- an import, the imports of a crate, the dependencies, the sysroot

  abbrev pub one_import : ℕ → Out Tank → Import → Bool → Out Tank
  one_import = find_import Tank from_tank s x (best_local s x) modules

  abbrev pub imports : ℕ → Out Tank → List Import → Out Tank
  imports = find_imports Tank from_tank s x (best_local s x) modules

  abbrev pub dependencies : ℕ → Item → Out Tank → List Dependency → Out Tank
  dependencies = find_in_deps Tank from_tank s x (best_local s x) modules

  abbrev pub sysroot : ℕ → Item → Out Tank → List ℕ → Bool → Out Tank
  sysroot = find_in_sysroot Tank from_tank s x (best_local s x) modules

  -- one language of the sysroot, unless the choice is stable
  unfoldable pub in_lang : ℕ → Item → Out Tank → ℕ → Bool → Out Tank
  in_lang left item o lang true = o
  in_lang left item o lang false = dependencies left item o (one_or_none (lang_of s x.from_crate.0 lang))

-- a search with a length left can begin
-- (a clause and no type: the area is written between, and a value with this fact would have to be made anew after each write)
pub record Begun (W A : List ℕ) (l : Layout) (x : FindPathCtx) (left : ℕ) : Type 0 where
  pub ready : Prepared W A l x
  pub some : 0 < left
  pub limit : left ≤ path_limit

-- what was found so far has no more names than the length left, and its tank stays in range
-- (a clause: `Out` is a record of the definitions, which make one of any numbers; so with the bounds of a tank and of a choice)
pub record Held (left : ℕ) (o : Out Tank) : Type 0 where
  pub few : o.choice.count ≤ left
  pub tank : o.meter.fuel + o.meter.spent < 2 ^ 32
