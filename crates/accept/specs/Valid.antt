-- What a reader may rely on in an accepted snapshot (proofs/Valid.antt: accepted_valid).
use Rattle.std.specs.Prelude.{ℕ, suc, ◌+◌, ◌≤◌, ◌<◌, ◌≡◌, List, [], ◌∷◌, Bool, true, false, length, get_or}
use Rattle.snapshot.specs.Limits.{word_limit, crate_limit, module_limit, name_limit, definition_limit, namespace_limit}
use Rattle.snapshot.specs.Words.{kind_of}
use Rattle.snapshot.specs.Records.{Name, Crate, Dependency, Map, Module, Child, Prelude, Definition, Scope, Import, Extern, Member, Snapshot}
use Rattle.snapshot.specs.Records.{definition_at, scope_at, import_at, extern_at}
use Rattle.check_rules.specs.Tests.{Counts, counts_of, no_name, no_map, no_module, no_definition, is_edition}
use Rattle.check_rules.specs.Tests.{same_name, same_child, same_prelude, same_entry, same_extern}

-- every element has P
pub data Each {A : Type 0} (P : A → Type 0) : List A → Type 0 where
  none : Each P []
  more : {x : A} {xs : List A} → P x → Each P xs → Each P (x ∷ xs)

-- fields in their ranges, and every number below the count of what it names
-- (clauses and no types: a record is read out of the words where it stands, and readers take its place; a place with such a fact would have to be
-- made anew for each record that a loop or a lookup comes to)

pub record NameFits (x : Name) : Type 0 where
  pub some : 1 ≤ x.bytes
  pub bytes : x.bytes ≤ 255

pub record CrateFits (x : Crate) : Type 0 where
  pub origin : x.origin ≤ 4
  pub no_std : x.no_std ≤ 1
  pub edition : is_edition x.edition ≡ true

pub record DependencyFits (n : Counts) (x : Dependency) : Type 0 where
  pub owner : x.owner < n.crates
  pub crate : x.crate < n.crates
  pub sysroot : x.sysroot ≤ 1

pub record MapFits (n : Counts) (x : Map) : Type 0 where
  pub crate : x.crate < n.crates
  pub block : x.block ≤ n.modules
  pub no_std : x.no_std ≤ 1

pub record ModuleFits (n : Counts) (x : Module) : Type 0 where
  pub map : x.map < n.maps
  pub parent : x.parent ≤ n.modules

pub record ChildFits (n : Counts) (x : Child) : Type 0 where
  pub owner : x.owner < n.modules
  pub child : x.child < n.modules

pub record PreludeFits (n : Counts) (x : Prelude) : Type 0 where
  pub map : x.map < n.maps
  pub target : x.target < n.modules

pub record DefinitionFits (n : Counts) (x : Definition) : Type 0 where
  pub known : 1 ≤ x.kind
  pub kind : x.kind ≤ 5
  pub variant : x.kind ≡ 2 → (x.first < n.definitions) × (x.second < n.names)
  pub builtin : x.kind ≡ 3 → x.first < n.names
  pub home : (x.kind ≡ 2 → ⊥) → (x.kind ≡ 3 → ⊥) → x.first < n.modules
  pub place : x.place < word_limit

pub record ScopeFits (n : Counts) (x : Scope) : Type 0 where
  pub owner : x.owner < n.modules
  pub ns : x.ns ≤ namespace_limit
  pub name : x.name < n.names
  pub definition : x.definition < n.definitions
  pub visibility : x.visibility ≤ 3
  pub public : x.visibility ≡ 0 → x.number ≡ 0
  pub crate : x.visibility ≡ 1 → x.number < n.crates
  pub inside : 2 ≤ x.visibility → x.number < n.modules
  pub declared : x.declared ≤ 3
  pub bits : x.bits ≤ 3
  pub place : x.place < word_limit

pub record ImportFits (n : Counts) (x : Import) : Type 0 where
  pub owner : x.owner < n.crates
  pub ns : x.ns ≤ namespace_limit
  pub definition : x.definition < n.definitions
  pub name : x.name < n.names
  pub container : x.container < n.modules
  pub bits : x.bits ≤ 3
  pub place : x.place < word_limit

pub record ExternFits (n : Counts) (x : Extern) : Type 0 where
  pub owner : x.owner < n.crates
  pub name : x.name < n.names
  pub target : x.target < n.modules
  pub place : x.place < word_limit

pub record MemberFits (n : Counts) (x : Member) : Type 0 where
  pub parent : x.parent < n.definitions
  pub name : x.name < n.names
  pub definition : x.definition < n.definitions
  pub kind : x.kind ≤ 3
  pub bits : x.bits ≤ 3

pub record Ranges (n : Counts) (s : Snapshot) : Type 0 where
  pub names : Each NameFits s.names
  pub crates : Each CrateFits s.crates
  pub dependencies : Each (DependencyFits n) s.dependencies
  pub maps : Each (MapFits n) s.maps
  pub modules : Each (ModuleFits n) s.modules
  pub children : Each (ChildFits n) s.children
  pub preludes : Each (PreludeFits n) s.preludes
  pub definitions : Each (DefinitionFits n) s.definitions
  pub scopes : Each (ScopeFits n) s.scopes
  pub imports : Each (ImportFits n) s.imports
  pub externs : Each (ExternFits n) s.externs
  pub members : Each (MemberFits n) s.members

-- the words hold the record at its place, with a head of its kind
pub record Stands {R : Type 0} (W : List ℕ) (read : List ℕ → ℕ → R) (kind place : ℕ) (x : R) : Type 0 where
  pub head : kind_of (get_or W place 0) ≡ kind
  pub same : read W place ≡ x
  pub inside : place < word_limit

-- every record that a path can be found by stands at its place
pub record Placed (W : List ℕ) (s : Snapshot) : Type 0 where
  pub definitions : Each (λ x. Stands W definition_at 8 x.place x) s.definitions
  pub scopes : Each (λ x. Stands W scope_at 9 x.place x) s.scopes
  pub imports : Each (λ x. Stands W import_at 10 x.place x) s.imports
  pub externs : Each (λ x. Stands W extern_at 11 x.place x) s.externs

-- the limits of document 01
pub record Limits (n : Counts) : Type 0 where
  pub names : n.names ≤ name_limit
  pub crates : n.crates ≤ crate_limit
  pub modules : n.modules ≤ module_limit
  pub definitions : n.definitions ≤ definition_limit

-- of the records numbered m, k and d

abbrev pub map_in : List Module → ℕ → ℕ
map_in xs m = (get_or xs m no_module).map

abbrev pub parent_in : List Module → ℕ → ℕ
parent_in xs m = (get_or xs m no_module).parent

abbrev pub block_in : List Map → ℕ → ℕ
block_in ms k = (get_or ms k no_map).block

abbrev pub crate_in : List Map → ℕ → ℕ
crate_in ms k = (get_or ms k no_map).crate

abbrev pub definition_in : List Definition → ℕ → Definition
definition_in ds d = get_or ds d no_definition

-- The modules stand map by map, each map's root first, each below its parent, and each block below its crate.
pub record Tree (ms : List Map) (xs : List Module) : Type 0 where
  pub known : (m : ℕ) → m < length xs → map_in xs m < length ms
  pub rise : (i j : ℕ) → i ≤ j → j < length xs → map_in xs i ≤ map_in xs j
  -- a parent is an earlier module of the same map
  pub parents : (m p : ℕ) → m < length xs → parent_in xs m ≡ suc p → (p < m) × (map_in xs p ≡ map_in xs m)
  -- a module without a parent is its map's first
  pub roots : (m j : ℕ) → m < length xs → parent_in xs m ≡ 0 → j < m → map_in xs j ≡ map_in xs m → ⊥
  -- a block's parent is a module of an earlier map of the same crate
  pub blocks : (k b : ℕ) → k < length ms → block_in ms k ≡ suc b
      → (b < length xs) × (map_in xs b < k) × (crate_in ms (map_in xs b) ≡ crate_in ms k)

-- a variant's parent is an earlier definition of kind 4
abbrev pub Enums : List Definition → Type 0
Enums ds = (d : ℕ) → d < length ds → (definition_in ds d).kind ≡ 2
    → ((definition_in ds d).first < d) × ((definition_in ds (definition_in ds d).first).kind ≡ 4)

-- a child's parent is its owner
abbrev pub Under : List Module → Child → Type 0
Under xs x = parent_in xs x.child ≡ x.owner + 1

-- in the macros namespace stand definitions of kind 5 alone
abbrev pub MacroOnly : List Definition → ℕ → ℕ → Type 0
MacroOnly ds ns d = ns ≡ 2 → (definition_in ds d).kind ≡ 5

-- a member's parent is of kind 4; a variant is the parent's by that name, another member is of kind 4
pub record Belongs (ds : List Definition) (x : Member) : Type 0 where
  pub parent : (definition_in ds x.parent).kind ≡ 4
  pub variant : x.kind ≡ 0
      → ((definition_in ds x.definition).kind ≡ 2) × ((definition_in ds x.definition).first ≡ x.parent)
      × ((definition_in ds x.definition).second ≡ x.name)
  pub other : (x.kind ≡ 0 → ⊥) → (definition_in ds x.definition).kind ≡ 4

-- no later element is the same as an earlier one, by the test; d stands for what is not there
abbrev pub Distinct : {A : Type 0} → (A → A → Bool) → A → List A → Type 0
Distinct same d xs = (i j : ℕ) → i < j → j < length xs → same (get_or xs j d) (get_or xs i d) ≡ false

-- a crate has one own map, the map of no block
pub record Owned (crates : ℕ) (ms : List Map) : Type 0 where
  pub some : (c : ℕ) → c < crates → (k : ℕ) × (k < length ms) × (crate_in ms k ≡ c) × (block_in ms k ≡ 0)
  pub once : (i j : ℕ) → i < j → j < length ms → block_in ms i ≡ 0 → block_in ms j ≡ 0 → crate_in ms i ≡ crate_in ms j → ⊥

-- one definition of kind k at most for each module or name
abbrev pub DefinedOnce : ℕ → List Definition → Type 0
DefinedOnce k ds = (i j : ℕ) → i < j → j < length ds → (definition_in ds i).kind ≡ k → (definition_in ds j).kind ≡ k
    → (definition_in ds i).first ≡ (definition_in ds j).first → ⊥

-- no name text, child, prelude, name in a scope and namespace, or extern name stands twice
pub record Once (s : Snapshot) : Type 0 where
  pub names : Distinct same_name no_name s.names
  pub children : Distinct same_child (record { owner = 0; child = 0 }) s.children
  pub preludes : Distinct same_prelude (record { map = 0; target = 0 }) s.preludes
  pub scopes : Distinct same_entry
      (record { owner = 0; ns = 0; name = 0; definition = 0; visibility = 0; number = 0; declared = 0; bits = 0; place = 0 }) s.scopes
  pub externs : Distinct same_extern (record { owner = 0; name = 0; target = 0; place = 0 }) s.externs

pub record Valid (s : Snapshot) : Type 0 where
  pub ranges : Ranges (counts_of s) s
  pub limits : Limits (counts_of s)
  pub tree : Tree s.maps s.modules
  pub enums : Enums s.definitions
  pub children : Each (Under s.modules) s.children
  pub scopes : Each (λ x. MacroOnly s.definitions x.ns x.definition) s.scopes
  pub imports : Each (λ x. MacroOnly s.definitions x.ns x.definition) s.imports
  pub members : Each (Belongs s.definitions) s.members
  -- no map is empty
  pub filled : (k : ℕ) → k < length s.maps → (m : ℕ) × (m < length s.modules) × (map_in s.modules m ≡ k)
  pub owned : Owned (length s.crates) s.maps
  pub once : Once s
  pub modules : DefinedOnce 1 s.definitions
  pub builtins : DefinedOnce 3 s.definitions
