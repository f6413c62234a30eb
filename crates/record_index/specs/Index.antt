-- The index of a snapshot: chains of records with one key in the work area, and where the records of each crate stand.
use Rattle.std.specs.Prelude.{ℕ, ◌+◌, ◌-◌, ◌*◌, ◌%◌, ◌≤◌, ◌<◌, ◌≡◌, ◌&&◌, List, true, false, eqb, get_or}
use Rattle.snapshot.specs.Limits.{word_limit, module_limit, crate_limit}
use Rattle.snapshot.specs.Sizes.{definition_size, scope_size, import_size}
use Rattle.snapshot.specs.Records.{Definition, definition_at, scope_at, import_at}
use Rattle.snapshot.specs.Layouts.{word_count, records_of, definition_base, scope_base, import_base, item_keys, import_keys}
use Rattle.snapshot.specs.Layouts.{head_table, link_table, dependency_table, extern_table}
use Rattle.snapshot.specs.declared.layout.Layout.{Layout}
use Rattle.record_index.specs.Halves.{half_at}
use Rattle.record_index.specs.Ranges.{Ranged, dependency_owner_at, extern_owner_at}
use Rattle.record_index.specs.declared.chains.Chain.{Chain}
use Rattle.record_index.specs.declared.chains.Chain.TheVariants.{Modules, Items, Imports}

-- a definition of the words, without fields where there is none
abbrev pub definition_in : List ℕ → Layout → ℕ → Definition
definition_in W l d =
    get_or (records_of definition_at definition_size W (definition_base l) l.definitions) d (record { kind = 0; first = 0; second = 0; place = 0 })

-- what an item of a namespace and a definition is known by: a module by its own number, another by the definition's
abbrev pub item_number : List ℕ → Layout → ℕ → ℕ → ℕ
item_number W l ns d = elim (eqb ns 0 && eqb (definition_in W l d).kind 1) [ true ↦ (definition_in W l d).first | false ↦ d ]

-- the key of an import of the crate c, of an item that is known by n
abbrev pub import_key : ℕ → ℕ → ℕ
import_key c n = (n % import_keys + c % import_keys) % import_keys

-- how many keys a chain has, the halves of its heads and links, how many records, and where they stand

abbrev pub keys_of : Chain → ℕ
keys_of Modules = module_limit
keys_of Items = item_keys
keys_of Imports = import_keys

abbrev pub heads_of : Chain → ℕ
heads_of Modules = 2 * head_table
heads_of Items = 2 * head_table + module_limit
heads_of Imports = 2 * head_table + module_limit + item_keys

abbrev pub links_of : Layout → Chain → ℕ
links_of l Modules = 2 * link_table
links_of l Items = 2 * link_table + l.scopes
links_of l Imports = 2 * link_table + 2 * l.scopes

abbrev pub count_of : Layout → Chain → ℕ
count_of l Modules = l.scopes
count_of l Items = l.scopes
count_of l Imports = l.imports

abbrev pub size_of : Chain → ℕ
size_of Modules = scope_size
size_of Items = scope_size
size_of Imports = import_size

abbrev pub base_of : Layout → Chain → ℕ
base_of l Modules = scope_base l
base_of l Items = scope_base l
base_of l Imports = import_base l

-- the key of the record with its head at h
abbrev pub key_at : List ℕ → Layout → Chain → ℕ → ℕ
key_at W l Modules h = (scope_at W h).owner
key_at W l Items h = item_number W l (scope_at W h).ns (scope_at W h).definition % item_keys
key_at W l Imports h = import_key (import_at W h).owner (item_number W l (import_at W h).ns (import_at W h).definition)

-- that of the record k
abbrev pub key_of : List ℕ → Layout → Chain → ℕ → ℕ
key_of W l c k = key_at W l c (base_of l c + size_of c * k)

-- of n records, v is the first with the key m from the record k on, or n where there is none
pub record First (f : ℕ → ℕ) (n m k v : ℕ) : Type 0 where
  pub from : k ≤ v
  pub most : v ≤ n
  pub its : v < n → f v ≡ m
  pub least : (i : ℕ) → k ≤ i → i < v → (f i ≡ m → ⊥)

-- the record before k, if there is one, has the key
abbrev pub Follows : (ℕ → ℕ) → ℕ → ℕ → Type 0
Follows f m k = 0 < k → f (k - 1) ≡ m

-- of n records those from k on are chained, with heads from the half `at` on and links from `to` on
-- (a clause and no type: the area is written between, and a value with this fact would have to be made anew after each write)
pub record Chained (f : ℕ → ℕ) (n keys at to k : ℕ) (A : List ℕ) : Type 0 where
  pub heads : (m : ℕ) → m < keys → First f n m k (half_at A (at + m))
  pub links : (j : ℕ) → k ≤ j → j < n → First f n (f j) (j + 1) (half_at A (to + j))

-- all records of a chain
abbrev pub Chains : List ℕ → Layout → List ℕ → Chain → Type 0
Chains W l A c = Chained (key_of W l c) (count_of l c) (keys_of c) (heads_of c) (links_of l c) 0 A

-- the index of a snapshot
-- (a clause and no type, as `Chained`)
pub record Index (W : List ℕ) (l : Layout) (A : List ℕ) : Type 0 where
  pub chains : (c : Chain) → Chains W l A c
  pub keys : (c : Chain) (k : ℕ) → k < count_of l c → key_of W l c k < keys_of c
  pub dependencies : Ranged (dependency_owner_at W l) l.dependencies l.crates dependency_table A
  pub externs : Ranged (extern_owner_at W l) l.externs l.crates extern_table A

-- words for which the index has room
-- (a clause and no type: it is less than that the words were accepted, and the public function that makes the index may ask no more)
pub record Sized (W : List ℕ) (l : Layout) : Type 0 where
  pub short : word_count l ≤ word_limit
  pub few : l.modules ≤ module_limit
  pub crates : l.crates ≤ crate_limit
  pub owners : (k : ℕ) → k < l.scopes → (scope_at W (scope_base l + scope_size * k)).owner < l.modules
  pub entries : (k : ℕ) → k < l.scopes → (scope_at W (scope_base l + scope_size * k)).definition < l.definitions
  pub imports : (k : ℕ) → k < l.imports → (import_at W (import_base l + import_size * k)).definition < l.definitions
  pub dependencies : (k : ℕ) → k < l.dependencies → dependency_owner_at W l k < l.crates
  pub externs : (k : ℕ) → k < l.externs → extern_owner_at W l k < l.crates
