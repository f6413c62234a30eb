-- Devices of the proof: only contracts of inner functions and proofs cite them.
use Rattle.std.specs.Prelude.{ℕ, suc, ◌+◌, ◌≤◌, ◌<◌, ◌≡◌, List, [], ◌∷◌, Bool, true, false, eqb, length, get_or}
use Rattle.snapshot.specs.Limits.{area_limit}
use Rattle.snapshot.specs.Lists.{rows, any}
use Rattle.snapshot.specs.Records.{Scope, scope_at}
use Rattle.snapshot.specs.Layouts.{snap_of}
use Rattle.snapshot.specs.declared.layout.Layout.{Layout}
use Rattle.accept.specs.Post.{Reads}
use Rattle.imports.specs.order.Rooms.{heads_room, spare_room}
use Rattle.import_rules.specs.Collect.{entry_before, sort_into}

-- two lists as one: the head of the second comes first only where it stands before that of the first
unfoldable pub merge_by : {A : Type 0} → (A → A → Bool) → List A → List A → List A
merge_by before [] ys = ys
merge_by before (x ∷ xs) [] = x ∷ xs
merge_by before (x ∷ xs) (y ∷ ys) = elim (before y x) [ true ↦ y ∷ merge_by before (x ∷ xs) ys | false ↦ x ∷ merge_by before xs (y ∷ ys) ]

-- the entries whose heads stand in the n words from a place on
abbrev pub entries_at : List ℕ → List ℕ → ℕ → ℕ → List Scope
entries_at W A from n = rows (λ i. scope_at W (get_or A (from + i) 0)) 0 n

-- the order of entries of the snapshot that is read off the words and the tables
abbrev pub order_of : List ℕ → List ℕ → Layout → Scope → Scope → Bool
order_of W A l = entry_before (snap_of W A l)

-- the n words from a place on stand in the spare words too
pub record Copied (A B : List ℕ) (from n : ℕ) : Type 0 where
  pub size : length B ≡ length A
  pub there : (i : ℕ) → i < n → get_or B (spare_room + i) 0 ≡ get_or A (from + i) 0
  pub below : (i : ℕ) → i < heads_room → get_or B i 0 ≡ get_or A i 0

-- of the words before the spare ones only those from a place to another change
pub record Runs (A B : List ℕ) (from to : ℕ) : Type 0 where
  pub size : length B ≡ length A
  pub below : (i : ℕ) → i < from → get_or B i 0 ≡ get_or A i 0
  pub above : (i : ℕ) → to ≤ i → i < heads_room → get_or B i 0 ≡ get_or A i 0

-- checked words, with a whole work area
-- (a clause and no type: the area is written between, and a value with this fact would have to be made anew after each write)
pub record Ready (W A : List ℕ) (l : Layout) : Type 0 where
  pub reads : Reads W A l
  pub size : length A ≡ area_limit

-- two runs of entries became one
pub record Merges (W A : List ℕ) (l : Layout) (B : List ℕ) (from m n : ℕ) : Type 0 where
  pub frame : Runs A B from (from + m + n)
  pub same : entries_at W B from (m + n) ≡ merge_by (order_of W A l) (entries_at W A from m) (entries_at W A (from + m) n)

-- a run of entries was put in order
pub record Sorts (W A : List ℕ) (l : Layout) (B : List ℕ) (from n : ℕ) : Type 0 where
  pub frame : Runs A B from (from + n)
  pub same : entries_at W B from n ≡ sort_into (order_of W A l) [] (entries_at W A from n)

-- how many entries of modules that were not visited there are
unfoldable pub waiting : List ℕ → List Scope → ℕ
waiting seen [] = 0
waiting seen (e ∷ es) = elim (any (eqb e.owner) seen) [ true ↦ waiting seen es | false ↦ suc (waiting seen es) ]
