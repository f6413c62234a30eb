-- `find_local_import_locations`: the modules that it takes, in order. The order depends on the scopes, the viewing module
-- and the visited pairs alone.
use Rattle.std.specs.Prelude.{ℕ, zero, suc, ◌+◌, Bool, true, false, not, ◌&&◌, ◌||◌, List, [], ◌∷◌, ◌++◌, map, length, ◌==◌, nat_eq}
use Rattle.snapshot.specs.Lists.{any}
use Rattle.snapshot.specs.Records.{Snapshot}
use Rattle.hir_def.specs.Finds.{select}
use Rattle.hir_def.specs.Items.{crate_of, same_item}
use Rattle.module_tree.specs.rules.Visibility.{sees}
use Rattle.hir_def.specs.ItemScope.{modules_in_scope, entry_module}
use Rattle.hir_def.specs.Nameres.{children_of, containers}
use Rattle.hir_def.specs.declared.Item.{Item}

-- a local search under way: its item, and the modules that it has taken
pub record Level : Type 0 where
  pub item : Item
  pub modules : List ℕ

unfoldable pub has : List ℕ → ℕ → Bool
has ms m = any (nat_eq m) ms

-- (item, m) is in `visited_modules`, given as the local searches under way
unfoldable pub visited : List Level → Item → ℕ → Bool
visited ls item m = any (λ l. same_item l.item item && has l.modules m) ls

-- the first worklist: the children of the viewing module, then its containing modules
unfoldable pub start_from : Snapshot → ℕ → List ℕ
start_from s from = map (λ c. c.child) (children_of s from) ++ containers s from

-- where a module leads: the modules in its scope that are in the viewer's crate and visible from the viewer
unfoldable pub leads_to : Snapshot → ℕ → ℕ → List ℕ
leads_to s from m =
    map (entry_module s)
    (select (λ e. (crate_of s (entry_module s e) == crate_of s from) && sees s from e) (modules_in_scope s m))

-- those that were not visited at entry and not taken since
unfoldable pub unmet : (ℕ → Bool) → List ℕ → List ℕ → List ℕ
unmet seen done ms = select (λ m. not (seen m || has done m)) ms

-- The worklist. A module that is visited when its turn comes is passed over; another is taken, and the unvisited ones
-- that it leads to go to the end.
unfoldable pub walk : (ℕ → List ℕ) → (ℕ → Bool) → ℕ → List ℕ → List ℕ → List ℕ
walk next seen zero done ws = done
walk next seen (suc b) done [] = done
walk next seen (suc b) done (m ∷ ws) =
    elim (seen m || has done m) [
      | true ↦ walk next seen b done ws
      | false ↦ walk next seen b (done ++ (m ∷ [])) (ws ++ unmet seen (done ++ (m ∷ [])) (next m))
    ]

-- A turn is a place of the worklist: those it starts with, and at most one for each scope record.
unfoldable pub find_local_import_locations : Snapshot → ℕ → (ℕ → Bool) → List ℕ
find_local_import_locations s from seen =
    walk (leads_to s from) seen (length (start_from s from) + length s.scopes) [] (start_from s from)
