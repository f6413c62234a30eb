-- What holds while the check goes on, and what a record's step answers. Only contracts and proofs cite it.
use Rattle.std.specs.Prelude.{ℕ, ◌+◌, ◌-◌, ◌*◌, ◌≤◌, ◌<◌, ◌≡◌, List, [], ◌∷◌, Bool, true, false, ◌&&◌, ◌||◌, not, eqb, ltb, length, get_or, Result}
use Rattle.std.specs.Prelude.{Ok, Err}
use Rattle.snapshot.specs.Limits.{word_limit, crate_limit, module_limit, name_limit, definition_limit, area_limit}
use Rattle.snapshot.specs.Refusals.{range_refusal, undefined_refusal, repeated_refusal, place_refusal, count_refusal, edition_refusal}
use Rattle.snapshot.specs.Refusals.{refusal_number}
use Rattle.snapshot.specs.Words.{pay_of, words_of}
use Rattle.snapshot.specs.Sizes.{child_size, definition_size, scope_size, extern_size}
use Rattle.snapshot.specs.Records.{Map, name_at, map_at}
use Rattle.snapshot.specs.Layouts.{word_count, child_base, definition_base, scope_base, extern_base, name_head, module_map, module_head, map_root}
use Rattle.snapshot.specs.Layouts.{own_map}
use Rattle.snapshot.specs.Layouts.{snap_with, root_table}
use Rattle.snapshot.specs.declared.layout.Layout.{Layout}
use Rattle.check_records.specs.chains.Chains.{name_key, record_key, slot_of, Marked, Chained, name_heads, scope_heads, extern_heads, child_marks}
use Rattle.check_records.specs.chains.Chains.{module_marks}
use Rattle.check_records.specs.chains.Chains.{name_links}
use Rattle.check_records.specs.chains.Chains.{scope_links, extern_links}
use Rattle.check_rules.specs.Tests.{Counts, no_map, is_own}
use Rattle.check_rules.specs.Steps.{Next, no, on}
use Rattle.snapshot.specs.declared.refusal.Refusal.{Refusal}

-- the number of the first test that fails, or 0
unfoldable pub number_of : Bool → Bool → Bool → Bool → Bool → ℕ
number_of false defined repeated placed room = range_refusal
number_of true false repeated placed room = undefined_refusal
number_of true true true placed room = repeated_refusal
number_of true true false false room = place_refusal
number_of true true false true false = count_refusal
number_of true true false true true = 0

-- the same for a crate
unfoldable pub crate_number_of : Bool → Bool → Bool → ℕ
crate_number_of false edition room = range_refusal
crate_number_of true false room = edition_refusal
crate_number_of true true false = count_refusal
crate_number_of true true true = 0

-- two records have the same owner, if that counts, and the same first fields
abbrev pub same_by : List ℕ → Bool → ℕ → ℕ → ℕ → Bool
same_by W owner fields a b =
    (not owner || eqb (pay_of (get_or W a 0)) (pay_of (get_or W b 0)))
    && (ltb fields 1 || eqb (get_or W (a + 1) 0) (get_or W (b + 1) 0))
    && (ltb fields 2 || eqb (get_or W (a + 2) 0) (get_or W (b + 2) 0))

abbrev pub counts_in : Layout → Counts
counts_in l =
    record
    { names = l.names; crates = l.crates; maps = l.maps; modules = l.modules; definitions = l.definitions }

-- the number +1 of the crate's first own map, counted from k, or 0
unfoldable pub own_from : ℕ → ℕ → List Map → ℕ
own_from c k [] = 0
own_from c k (x ∷ xs) = elim (is_own c x) [ true ↦ k + 1 | false ↦ own_from c (k + 1) xs ]

abbrev pub own_of : ℕ → List Map → ℕ
own_of c ms = own_from c 0 ms

-- no record of a kind above k
pub record Upto (k : ℕ) (l : Layout) : Type 0 where
  pub crates : k < 2 → l.crates ≡ 0
  pub dependencies : k < 3 → l.dependencies ≡ 0
  pub maps : k < 4 → l.maps ≡ 0
  pub modules : k < 4 → l.modules ≡ 0
  pub children : k < 6 → l.children ≡ 0
  pub preludes : k < 7 → l.preludes ≡ 0
  pub definitions : k < 8 → l.definitions ≡ 0
  pub scopes : k < 9 → l.scopes ≡ 0
  pub imports : k < 10 → l.imports ≡ 0
  pub externs : k < 11 → l.externs ≡ 0
  pub members : k < 13 → l.members ≡ 0

-- the counts are within the limits
pub record Limited (l : Layout) : Type 0 where
  pub names : l.names ≤ name_limit
  pub crates : l.crates ≤ crate_limit
  pub modules : l.modules ≤ module_limit
  pub definitions : l.definitions ≤ definition_limit

-- names, scopes and externs in chains, and the modules that are children or have a definition, above the tables
pub record Indexes (W A : List ℕ) (l : Layout) : Type 0 where
  pub names : Chained A name_heads name_links (λ i. name_key (name_at W (name_head A i))) l.names
  pub children : Marked A child_marks (λ j. get_or W (child_base l + child_size * j + 1) 0) l.children
  pub definitions : Marked A module_marks (λ j. slot_of W (definition_base l + definition_size * j)) l.definitions
  pub scopes : Chained A scope_heads scope_links (λ i. record_key W 2 (scope_base l + scope_size * i)) l.scopes
  pub externs : Chained A extern_heads extern_links (λ i. record_key W 1 (extern_base l + extern_size * i)) l.externs

-- a record's head stands at a place
pub record Here (W A : List ℕ) (l : Layout) (at : ℕ) : Type 0 where
  pub place : word_count l ≡ at
  pub here : at < length W
  pub short : length W ≤ word_limit
  pub room : area_limit ≤ length A
  pub limited : Limited l
  pub index : Indexes W A l

-- a whole record stands at a place, up to the next one
pub record Ready (W A : List ℕ) (l : Layout) (at next : ℕ) : Type 0 where
  pub place : word_count l ≡ at
  pub fits : next ≤ length W
  pub short : length W ≤ word_limit
  pub room : area_limit ≤ length A
  pub limited : Limited l
  pub index : Indexes W A l

-- the records before a place, of which the last is of kind k, are those of the layout, with the maps given
pub record Stands (W A : List ℕ) (k at : ℕ) (l : Layout) (ms : List Map) : Type 0 where
  pub place : word_count l ≡ at
  pub within : at ≤ length W
  pub upto : Upto k l
  pub limited : Limited l
  pub heads : (j : ℕ) → j < l.names → name_head A j + 1 + words_of (pay_of (get_or W (name_head A j) 0)) ≤ length W
  pub count : length ms ≡ l.maps
  pub latest : 0 < l.maps → get_or ms (l.maps - 1) no_map ≡ map_at W l.latest
  pub below : (m : ℕ) → m < l.modules → module_map A m < l.maps
  pub rising : (i j : ℕ) → i ≤ j → j < l.modules → module_map A i ≤ module_map A j
  pub inside : (m : ℕ) → m < l.modules → get_or ms (module_map A m) no_map ≡ map_at W (module_head A m)
  pub own : (c : ℕ) → c < l.crates → own_map A c ≡ own_of c ms
  pub index : Indexes W A l

-- the answer of a step on a record of kind k, where x is the step's definition; A is the area after it
abbrev pub Answered : List ℕ → List ℕ → ℕ → ℕ → Next → Result Layout Refusal → Type 0
Answered W A k next x (Err r) = x ≡ no (refusal_number r)
Answered W A k next x (Ok l) = (ms : List Map) × (x ≡ on (snap_with W A l ms)) × Stands W A k next l ms

-- the first n modules have their maps' first modules in the table; the other tables stay
pub record Rooted (A₀ A : List ℕ) (n : ℕ) : Type 0 where
  pub names : (i : ℕ) → i < root_table → get_or A i 0 ≡ get_or A₀ i 0
  pub crates : (c : ℕ) → c < crate_limit → own_map A c ≡ own_map A₀ c
  pub below : (m : ℕ) → m < n → map_root A (module_map A₀ m) < n
  pub inside : (m : ℕ) → m < n → module_map A₀ (map_root A (module_map A₀ m)) ≡ module_map A₀ m
  pub first : (m : ℕ) → m < n → map_root A (module_map A₀ m) ≤ m
