-- How near an answer of the rules is: what no length left can reach, no local search finds.
use Rattle.std.specs.Prelude.{ℕ, zero, suc, List, Bool, true, false, ◌&&◌, ◌||◌}
use Rattle.std.specs.Prelude.{Option, None, Some}
use Rattle.snapshot.specs.Lists.{any}
use Rattle.snapshot.specs.Records.{Snapshot}
use Rattle.hir_def.specs.Items.{same_item, module_item}
use Rattle.find_path_spec.specs.declared.FindPathCtx.{FindPathCtx}
use Rattle.find_path_spec.specs.Walk.{Level, visited, find_local_import_locations}
use Rattle.find_path_spec.specs.Local.{importable_name}
use Rattle.find_path_spec.specs.Rules.{module_rules}

abbrev pub is_some : {A : Type 0} → Option A → Bool
is_some None = false
is_some (Some a) = true

-- a local search for the module is under way
unfoldable pub is_on : List Level → ℕ → Bool
is_on ls m = any (λ l. same_item l.item (module_item m)) ls

module _ (s : Snapshot) (x : FindPathCtx) where
  -- a rule answers for the module
  abbrev pub ruled : ℕ → Bool
  ruled m = (module_rules s x false m).found

  -- the modules that a local search for the module takes
  abbrev pub locations : List Level → ℕ → List ℕ
  locations ls m = find_local_import_locations s x.from.0 (visited ls (module_item m))

  -- the viewer can import the module m from the module c
  unfoldable pub imports : ℕ → ℕ → Bool
  imports m c = is_some (importable_name s x (module_item m) c)

  -- a rule answers for the module, or for one that it can be imported from in fewer steps
  unfoldable pub near : List Level → ℕ → ℕ → Bool
  near ls zero m = false
  near ls (suc k) m = ruled m || any (λ c. imports m c && near ls k c) (locations ls m)
