-- The local search as the Rust has it: one set `visited_modules` of pairs, which a search changes and gives back, and the callback in the
-- middle of the walk. Local.antt passes the pairs down instead; here it is said that both are the same (proofs/Visited.antt).
use Rattle.std.specs.Prelude.{ℕ, zero, suc, ◌+◌, ◌≤◌, ◌≡◌, List, [], ◌∷◌, ◌++◌, Bool, true, false, ◌&&◌, ◌||◌, not, eqb, length}
use Rattle.std.specs.Prelude.{Option, None, Some}
use Rattle.snapshot.specs.Records.{Snapshot, Scope}
use Rattle.hir_def.specs.Finds.{select}
use Rattle.hir_def.specs.Items.{same_item, module_item}
use Rattle.hir_def.specs.declared.Item.{Item}
use Rattle.find_path_choice.specs.Choices.{Choice}
use Rattle.find_path_spec.specs.declared.FindPathCtx.{FindPathCtx}
use Rattle.find_path_choice.specs.Choices.{nothing, length_left}
use Rattle.find_path_spec.specs.Walk.{Level, visited, start_from, leads_to}
use Rattle.find_path_spec.specs.Rules.{module_rules}
use Rattle.find_path_spec.specs.Local.{offer_entry, importable_name, calculate_best_path_local}
use Rattle.find_path_spec.specs.Search.{search_local, best_local}

-- a set of pairs of an item and a module
abbrev pub Pairs : Type 0
Pairs = Item → ℕ → Bool

unfoldable pub no_pairs : Pairs
no_pairs item m = false

unfoldable pub insert : Pairs → Item → ℕ → Pairs
insert v item m i n = (same_item item i && eqb n m) || v i n

unfoldable pub remove : Pairs → Item → ℕ → Pairs
remove v item m i n = not (same_item item i && eqb n m) && v i n

unfoldable pub remove_all : Pairs → Item → List ℕ → Pairs
remove_all v item [] = v
remove_all v item (m ∷ ms) = remove_all (remove v item m) item ms

-- a choice, and the set as it is then
pub record Handed : Type 0 where
  pub choice : Choice
  pub set : Pairs

-- A local module search: length left, the set, module.
abbrev pub SetSearch : Type 0
SetSearch = ℕ → Pairs → ℕ → Handed

-- `turns` is how many places of the worklist are looked at
module _ (s : Snapshot) (x : FindPathCtx) (turns : ℕ) where
  -- what `calculate_best_path_local` does with a location, by the entry for the item there
  unfoldable pub callback : SetSearch → ℕ → Choice → Pairs → ℕ → Option Scope → Handed
  callback rec left best v m None = record { choice = best; set = v }
  callback rec left best v m (Some e) =
      let r = rec (length_left left best) v m in
      record { choice = offer_entry s x best r.choice e; set = r.set }

  -- The loop of `find_local_import_locations`; at its end the pairs of the modules that are marked processed are removed.
  unfoldable pub worklist : SetSearch → ℕ → Item → ℕ → List ℕ → List ℕ → Choice → Pairs → Handed
  worklist rec left item zero processed ws best v = record { choice = best; set = remove_all v item processed }
  worklist rec left item (suc b) processed [] best v = record { choice = best; set = remove_all v item processed }
  worklist rec left item (suc b) processed (m ∷ ws) best v =
      elim (v item m) [
        | true ↦ worklist rec left item b processed ws best v
        | false ↦
            let r = callback rec left best (insert v item m) m (importable_name s x item m) in
            worklist rec left item b (processed ++ (m ∷ [])) (ws ++ select (λ n. not (r.set item n)) (leads_to s x.from.0 m)) r.choice r.set
      ]

  unfoldable pub best_in_set : SetSearch → ℕ → Pairs → Item → Handed
  best_in_set rec left v item = worklist rec left item turns [] (start_from s x.from.0) nothing v

  unfoldable pub or_in_set : SetSearch → ℕ → Pairs → ℕ → Choice → Bool → Handed
  or_in_set rec left v m c true = record { choice = c; set = v }
  or_in_set rec left v m c false = best_in_set rec left v (module_item m)

  unfoldable pub module_in_set : SetSearch → SetSearch
  module_in_set rec zero v m = record { choice = nothing; set = v }
  module_in_set rec (suc l) v m = or_in_set rec (suc l) v m (module_rules s x false m) (module_rules s x false m).found

  unfoldable pub set_to : ℕ → SetSearch
  set_to zero left v m = record { choice = nothing; set = v }
  set_to (suc d) left v m = module_in_set (set_to d) left v m

  -- the module search without externs
  unfoldable pub search_in_set : SetSearch
  search_in_set left v m = set_to left left v m

-- The one set gives the answers of the pairs that are passed down, whatever the number of turns, if it is enough.
pub record OneSet (s : Snapshot) (x : FindPathCtx) (turns : ℕ) : Type 0 where
  -- a local search gives back the set that it met, whichever that is
  pub given : (left : ℕ) (v : Pairs) (item : Item) → (best_in_set s x turns (search_in_set s x turns) left v item).set ≡ v
  -- the answer is that of the search to which the same pairs are passed down
  pub same : (left : ℕ) (ls : List Level) (item : Item)
      → (best_in_set s x turns (search_in_set s x turns) left (visited ls) item).choice
      ≡ calculate_best_path_local s x (search_local s x) left ls item
  -- the local search that a charged one makes, where nothing is visited yet
  pub whole : (left : ℕ) (item : Item)
      → best_in_set s x turns (search_in_set s x turns) left no_pairs item ≡ record { choice = best_local s x left item; set = no_pairs }

abbrev pub Enough : Snapshot → FindPathCtx → ℕ → Type 0
Enough s x turns = length (start_from s x.from.0) + length s.scopes ≤ turns
