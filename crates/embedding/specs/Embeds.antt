-- A snapshot inside a larger one: its records stand there with their numbers moved, each list in order among records that others own.
use Rattle.std.specs.Prelude.{ℕ, ◌<◌, ◌≡◌, List, [], ◌∷◌, length, get_or}
use Rattle.snapshot.specs.Records.{Dependency, Child, Prelude, Scope, Import, Extern, Member, Snapshot}
use Rattle.check_rules.specs.Tests.{no_name}
use Rattle.hir_def.specs.Items.{definition_of, crate_data, module_of, map_of, root_of, own_map, module_item, defined_item}
use Rattle.hir_def.specs.declared.Item.{Item}
use Rattle.hir_def.specs.declared.Item.TheVariants.{Mod, Def}
use Rattle.find_path_spec.specs.declared.FindPathCtx.{FindPathCtx}
use Rattle.edit_rules.specs.Entries.{moved_scope, moved_import, moved_extern}
use Rattle.join_rules.specs.Joined.{Numbers, or_none, dependency_to, map_to, module_to, child_to, prelude_to, definition_to, scope_to, import_to}
use Rattle.join_rules.specs.Joined.{extern_to}
use Rattle.join_rules.specs.Joined.{member_to, definition_put}

-- no number below n goes to k
abbrev pub Outside : (ℕ → ℕ) → ℕ → ℕ → Type 0
Outside f n k = (i : ℕ) → i < n → f i ≡ k → ⊥

-- two numbers below n do not go to one
abbrev pub Apart : (ℕ → ℕ) → ℕ → Type 0
Apart f n = (i j : ℕ) → i < n → j < n → f i ≡ f j → i ≡ j

-- the elements of the first list stand in the second in order, each alike; between them stand others'
pub data Within {A : Type 0} (Alike : A → A → Type 0) (Others : A → Type 0) : List A → List A → Type 0 where
  done : Within Alike Others [] []
  ours : {x z : A} {xs zs : List A} → Alike x z → Within Alike Others xs zs → Within Alike Others (x ∷ xs) (z ∷ zs)
  theirs : {z : A} {xs zs : List A} → Others z → Within Alike Others xs zs → Within Alike Others xs (z ∷ zs)

-- records that are the same but for their numbers and their places

abbrev pub ScopeAlike : Numbers → Scope → Scope → Type 0
ScopeAlike e x z = z ≡ moved_scope (λ n. z.place) (scope_to e x)

abbrev pub ImportAlike : Numbers → Import → Import → Type 0
ImportAlike e x z = z ≡ moved_import (λ n. z.place) (import_to e x)

abbrev pub ExternAlike : Numbers → Extern → Extern → Type 0
ExternAlike e x z = z ≡ moved_extern (λ n. z.place) (extern_to e x)

pub record Embeds (e : Numbers) (s u : Snapshot) : Type 0 where
  -- things by their numbers
  pub names : (n : ℕ) → n < length s.names → get_or u.names (e.names n) no_name ≡ get_or s.names n no_name
  pub crates : (c : ℕ) → c < length s.crates → crate_data u (e.crates c) ≡ crate_data s c
  pub maps : (k : ℕ) → k < length s.maps → map_of u (e.maps k) ≡ map_to e (map_of s k)
  pub modules : (m : ℕ) → m < length s.modules → module_of u (e.modules m) ≡ module_to e (module_of s m)
  pub definitions : (d : ℕ) → d < length s.definitions
      → definition_of u (e.definitions d) ≡ definition_put (definition_of u (e.definitions d)).place (definition_to e (definition_of s d))
  pub module_there : (m : ℕ) → m < length s.modules → e.modules m < length u.modules
  -- no two become one
  pub names_apart : Apart e.names (length s.names)
  pub crates_apart : Apart e.crates (length s.crates)
  pub maps_apart : Apart e.maps (length s.maps)
  pub modules_apart : Apart e.modules (length s.modules)
  pub definitions_apart : Apart e.definitions (length s.definitions)
  -- first modules, own maps
  pub root : (k : ℕ) → k < length s.maps → root_of u (e.maps k) ≡ e.modules (root_of s k)
  pub own : (c : ℕ) → c < length s.crates → own_map u (e.crates c) ≡ e.maps (own_map s c)
  -- records by who owns them
  pub dependencies : Within (λ x z. z ≡ dependency_to e x) (λ (z : Dependency). Outside e.crates (length s.crates) z.owner)
      s.dependencies u.dependencies
  pub children : Within (λ x z. z ≡ child_to e x) (λ (z : Child). Outside e.modules (length s.modules) z.owner) s.children u.children
  pub preludes : Within (λ x z. z ≡ prelude_to e x) (λ (z : Prelude). Outside e.maps (length s.maps) z.map) s.preludes u.preludes
  pub scopes : Within (ScopeAlike e) (λ z. Outside e.modules (length s.modules) z.owner) s.scopes u.scopes
  pub imports : Within (ImportAlike e) (λ z. Outside e.crates (length s.crates) z.owner) s.imports u.imports
  pub externs : Within (ExternAlike e) (λ z. Outside e.crates (length s.crates) z.owner) s.externs u.externs
  pub members : Within (λ x z. z ≡ member_to e x) (λ (z : Member). Outside e.definitions (length s.definitions) z.parent)
      s.members u.members

-- an item with its number moved
unfoldable pub item_to : Numbers → Item → Item
item_to e (Mod m) = module_item (e.modules m.0)
item_to e (Def ns d) = defined_item ns.0 (e.definitions d.0)

-- what is set for a question, with its numbers moved
abbrev pub context_to : Numbers → FindPathCtx → FindPathCtx
context_to e x =
    record {
      prefix = x.prefix;
      prefer_no_std = x.prefer_no_std;
      prefer_prelude = x.prefer_prelude;
      prefer_absolute = x.prefer_absolute;
      allow_unstable = x.allow_unstable;
      ignore_local_imports = x.ignore_local_imports;
      fresh = x.fresh;
      is_std_item = x.is_std_item;
      from = record { 0 = e.modules x.from.0 };
      from_crate = record { 0 = e.crates x.from_crate.0 };
      crate_root = record { 0 = e.modules x.crate_root.0 };
      own = or_none e.modules x.own;
      max_len = x.max_len;
    }
