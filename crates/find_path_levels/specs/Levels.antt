-- Runs of modules and levels as words of the work area.
use Rattle.std.specs.Prelude.{ℕ, zero, suc, ◌+◌, ◌-◌, ◌*◌, ◌/◌, ◌%◌, ◌≤◌, ◌<◌, ◌≡◌, List, [], ◌∷◌, Bool, true, false, eqb, get_or}
use Rattle.std.specs.Coded.{×_prop, le_prop}
use Rattle.snapshot.specs.Lists.{rows}
use Rattle.snapshot.specs.Limits.{module_limit, definition_limit, namespace_limit}
use Rattle.hir_def.specs.Items.{defined_item, module_item}
use Rattle.hir_def.specs.declared.Item.{Item}
use Rattle.hir_def.specs.declared.Item.TheVariants.{Mod, Def}
use Rattle.find_path_spec.specs.Walk.{Level, has}

-- an item that fits a word
abbrev pub Small : Item → Type 0
Small (Mod m) = m.0 < definition_limit
Small (Def ns d) = (d.0 < definition_limit) × (ns.0 ≤ namespace_limit)

pub small_prop : (item : Item) → IsProp (Small item)
small_prop (Mod m) = le_prop
small_prop (Def ns d) = ×_prop le_prop le_prop

-- an item as a word: the namespace is the remainder by 4, and 3 for a module
unfoldable pub code_of : Item → ℕ
code_of (Mod m) = 4 * m.0 + 3
code_of (Def ns d) = 4 * d.0 + ns.0

unfoldable pub item_by : ℕ → Bool → Item
item_by w true = module_item (w / 4)
item_by w false = defined_item (w % 4) (w / 4)

-- the item of a word
abbrev pub item_at : ℕ → Item
item_at w = item_by w (eqb (w % 4) 3)

-- n words from a place on
abbrev pub run_at : List ℕ → ℕ → ℕ → List ℕ
run_at A from n = rows (λ i. get_or A (from + i) 0) 0 n

-- room for a run of all modules, and past it for the place of each
abbrev pub walk_room : ℕ
walk_room = 2 * module_limit

-- each module of the run of n modules has its place there
abbrev pub Placed : List ℕ → ℕ → ℕ → Type 0
Placed A top n = (i : ℕ) → i < n → get_or A (top + module_limit + get_or A (top + i) 0) 0 ≡ i

-- A level is known by the place of its run. The three words before are its item, the place of the level below, and its cursor.
unfoldable pub levels_of : List ℕ → ℕ → ℕ → List Level
levels_of A place zero = []
levels_of A place (suc d) =
    record { item = item_at (get_or A (place - 3) 0); modules = run_at A place (get_or A (place - 1) 0 + 1) }
    ∷ levels_of A (get_or A (place - 2) 0) d

-- the d levels lie one below the other, and below top
-- (a clause and no type: the area is written between, and a value with this fact would have to be made anew after each write)
unfoldable pub Chain : List ℕ → ℕ → ℕ → ℕ → Type 0
Chain A place zero top = Unit {0}
Chain A place (suc d) top =
    (3 ≤ place) × (place + (get_or A (place - 1) 0 + 1) ≤ top) × Chain A (get_or A (place - 2) 0) d (place - 3)

-- how many of the numbers below n are not in the list
unfoldable pub room : ℕ → List ℕ → ℕ
room zero r = 0
room (suc n) r = elim (has r n) [ true ↦ room n r | false ↦ suc (room n r) ]
