-- The walk over the modules, in the words past the threads. Only contracts of inner functions and proofs cite it.
use Rattle.std.specs.Prelude.{ℕ, zero, suc, ◌+◌, ◌≤◌, ◌<◌, ◌≡◌, List, [], ◌∷◌, ◌++◌, length, get_or}
use Rattle.snapshot.specs.Limits.{module_limit}
use Rattle.snapshot.specs.Lists.{rows}
use Rattle.snapshot.specs.Layouts.{snap_of}
use Rattle.snapshot.specs.declared.layout.Layout.{Layout}
use Rattle.check_records.specs.chains.Chains.{Marked}
use Rattle.accept.specs.Valid.{Each}
use Rattle.import_rules.specs.Collect.{visits, modules_from}
use Rattle.imports.specs.order.Lists.{waiting}
use Rattle.imports.specs.declared.lists.walk.Turn.{Turn}
use Rattle.imports.specs.lists.Threads.{member_links_base, Threaded}

-- the first words of the marks of the modules that were visited, of these in order, and of the pile
abbrev pub marks_base : Layout → ℕ
marks_base l = member_links_base l + l.members

abbrev pub order_base : Layout → ℕ
order_base l = marks_base l + module_limit

abbrev pub pile_base : Layout → ℕ
pile_base l = order_base l + l.scopes + 1

-- f (n - 1), .. , f 0
unfoldable pub down_from : {A : Type 0} → (ℕ → A) → ℕ → List A
down_from f zero = []
down_from f (suc n) = f n ∷ down_from f n

-- the pile, its top first
abbrev pub pile_at : List ℕ → Layout → ℕ → List ℕ
pile_at A l t = down_from (λ i. get_or A (pile_base l + i) 0) t

-- the modules that were visited
abbrev pub order_at : List ℕ → Layout → ℕ → List ℕ
order_at A l k = rows (λ i. get_or A (order_base l + i) 0) 0 k

-- the modules of entries were put on the pile
pub record Pushed (l : Layout) (t : ℕ) (pile : List ℕ) (A B : List ℕ) (r : ℕ) : Type 0 where
  pub same : pile_at B l r ≡ pile
  pub grows : t ≤ r
  pub size : length B ≡ length A
  pub below : (i : ℕ) → i < pile_base l + t → get_or B i 0 ≡ get_or A i 0

-- the same, the last first
abbrev pub seen_at : List ℕ → Layout → ℕ → List ℕ
seen_at A l k = down_from (λ i. get_or A (order_base l + i) 0) k

-- the turns that are enough from here on
abbrev pub turns_at : List ℕ → List ℕ → Layout → ℕ → ℕ → ℕ
turns_at W A l k t = t + waiting (seen_at A l k) (snap_of W A l).scopes

-- the modules in order, k that stand there and those that are still to come
abbrev pub walk_at : List ℕ → List ℕ → Layout → ℕ → ℕ → List ℕ
walk_at W A l k t = order_at A l k ++ visits (turns_at W A l k t) (snap_of W A l) (seen_at A l k) (pile_at A l t)

pub record Walking (W A : List ℕ) (l : Layout) (n k t : ℕ) : Type 0 where
  pub threaded : Threaded W A l n
  pub marked : Marked A (marks_base l) (λ i. get_or A (order_base l + i) 0) k
  pub inside : Each (λ m. m < l.modules) (pile_at A l t)
  pub taken : Each (λ m. m < l.modules) (order_at A l k)
  pub room : k + turns_at W A l k t ≤ l.scopes + 1

pub record Turned (W A : List ℕ) (l : Layout) (n k t : ℕ) (B : List ℕ) (r : Turn) : Type 0 where
  pub walking : Walking W B l n r.order r.top
  pub same : walk_at W B l r.order r.top ≡ walk_at W A l k (t + 1)
  pub falls : turns_at W B l r.order r.top < turns_at W A l k (t + 1)
  pub size : length B ≡ length A
  pub below : (i : ℕ) → i < marks_base l → get_or B i 0 ≡ get_or A i 0

-- the modules of a crate stand in order
pub record Walked (W A : List ℕ) (l : Layout) (c : ℕ) (B : List ℕ) (r : ℕ) : Type 0 where
  pub same : order_at B l r ≡ modules_from (snap_of W A l) c
  pub few : r ≤ l.scopes + 1
  pub inside : Each (λ m. m < l.modules) (order_at B l r)
  pub size : length B ≡ length A
  pub below : (i : ℕ) → i < marks_base l → get_or B i 0 ≡ get_or A i 0
