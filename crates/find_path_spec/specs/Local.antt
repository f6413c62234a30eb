-- The local search, which is never charged: its module search has maybe_extern = false.
use Rattle.std.specs.Prelude.{ℕ, zero, suc, Bool, true, false, not, ◌&&◌, ◌||◌, List, [], ◌∷◌, ◌++◌, ◌==◌}
use Rattle.std.specs.Prelude.{Option, None, Some}
use Rattle.snapshot.specs.Records.{Snapshot, Scope}
use Rattle.module_tree.specs.rules.Visibility.{sees}
use Rattle.hir_def.specs.ItemScope.{is_declared, name_of, preferred}
use Rattle.hir_def.specs.Items.{module_item}
use Rattle.hir_def.specs.declared.Item.{Item}
use Rattle.find_path_choice.specs.Choices.{Choice}
use Rattle.find_path_spec.specs.declared.FindPathCtx.{FindPathCtx}
use Rattle.find_path_choice.specs.Choices.{via_local, step_by, nothing, try_select, length_left}
use Rattle.find_path_spec.specs.Walk.{Level, visited, find_local_import_locations}
use Rattle.find_path_spec.specs.Rules.{module_rules}

-- A local module search: length left, the local searches under way, module.
abbrev pub LocalSearch : Type 0
LocalSearch = ℕ → List Level → ℕ → Choice

module _ (s : Snapshot) (x : FindPathCtx) where
  -- a choice for the container, if there is one, is offered with the name, by a step t
  unfoldable pub offer : Choice → Choice → ℕ → ℕ → Choice
  offer best c n t = elim c.found [ true ↦ try_select s x.prefer_prelude best c n t | false ↦ best ]

  unfoldable pub offer_entry : Choice → Choice → Scope → Choice
  offer_entry best c e = offer best c e.name (step_by via_local e.place)

  -- visible, and declared there or no implicitly private import
  abbrev pub is_importable : Scope → Bool
  is_importable e = sees s x.from.0 e && (is_declared e || not (e.visibility == 3))

  unfoldable pub entry_if : Option Scope → Option Scope
  entry_if None = None
  entry_if (Some e) = elim (is_importable e) [ true ↦ Some e | false ↦ None ]

  -- the entry by which the viewer can import the item from the module; by bit 32 the first such one that isn't deprecated, if there is one
  unfoldable pub importable_name : Item → ℕ → Option Scope
  importable_name item m = entry_if (preferred x.fresh s m item is_importable (name_of s m item))

  unfoldable pub location : LocalSearch → ℕ → List Level → Choice → ℕ → Option Scope → Choice
  location rec left ls best m None = best
  location rec left ls best m (Some e) = offer_entry best (rec (length_left left best) ls m) e

  -- Each location in turn; `done` are the modules before it. While m is searched, (item, m) and those are visited.
  unfoldable pub each_location : LocalSearch → ℕ → List Level → Item → List ℕ → Choice → List ℕ → Choice
  each_location rec left ls item done best [] = best
  each_location rec left ls item done best (m ∷ ms) =
      each_location rec left ls item (done ++ (m ∷ []))
      (location rec left (record { item = item; modules = done ++ (m ∷ []) } ∷ ls) best m (importable_name item m))
      ms

  -- `calculate_best_path_local`
  unfoldable pub calculate_best_path_local : LocalSearch → ℕ → List Level → Item → Choice
  calculate_best_path_local rec left ls item =
      each_location rec left ls item [] nothing (find_local_import_locations s x.from.0 (visited ls item))

  unfoldable pub or_local : LocalSearch → ℕ → List Level → ℕ → Choice → Bool → Choice
  or_local rec left ls m c true = c
  or_local rec left ls m c false = calculate_best_path_local rec left ls (module_item m)

  -- `find_path_for_module` with maybe_extern = false
  unfoldable pub find_path_for_module_local : LocalSearch → LocalSearch
  find_path_for_module_local rec zero ls m = nothing
  find_path_for_module_local rec (suc l) ls m = or_local rec (suc l) ls m (module_rules s x false m) (module_rules s x false m).found
