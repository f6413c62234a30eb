-- Numbers of modules by which a local search passes over what it cannot find.
use Rattle.std.specs.Prelude.{ℕ, ◌+◌, ◌≤◌, ◌<◌, ◌≡◌, List, [], Bool, true, false, get_or}
use Rattle.std.specs.Prelude.{Some}
use Rattle.snapshot.specs.Records.{Snapshot, Scope, Prelude}
use Rattle.snapshot.specs.Layouts.{table_words}
use Rattle.accept.specs.Valid.{Each}
use Rattle.hir_def.specs.Items.{map_no, crate_root, item_of, module_item}
use Rattle.hir_def.specs.ItemScope.{is_module_entry, entry_module}
use Rattle.hir_def.specs.Nameres.{ancestor_maps, prelude_of}
use Rattle.find_path_spec.specs.declared.FindPathCtx.{FindPathCtx}
use Rattle.find_path_spec.specs.Rules.{may_be_in_scope, is_kw_kind_relative_to_from, keyword_of}
use Rattle.find_path_spec.specs.Walk.{has, find_local_import_locations}
use Rattle.find_path_spec.specs.Local.{is_importable}
use Rattle.find_path_spec.specs.laws.Near.{ruled, imports, near}

-- they stand past the tables, a word a module
abbrev pub distance : List ℕ → ℕ → ℕ
distance A m = get_or A (table_words + m) 0

-- the first word past them
abbrev pub distances_end : ℕ
distances_end = 7616

-- Numbers d of the modules below n: a local search for a module finds nothing with less than its number left.
abbrev pub Bounds : Snapshot → FindPathCtx → ℕ → (ℕ → ℕ) → Type 0
Bounds s x n d = (k m : ℕ) → m < n → near s x [] k m ≡ true → d m ≤ k

-- an entry of the module c for a module: this one's number is at most 1
unfoldable pub Named : Snapshot → (ℕ → ℕ) → ℕ → Scope → Type 0
Named s d c e = (m : ℕ) → e.owner ≡ c → item_of s e.ns e.definition ≡ module_item m → d m ≤ 1

-- an entry for a module that the viewer can import from the entry's module: its number is at most one more than that one's
unfoldable pub Stepped : Snapshot → FindPathCtx → (ℕ → ℕ) → Scope → Type 0
Stepped s x d e = (m : ℕ) → item_of s e.ns e.definition ≡ module_item m → imports s x m e.owner ≡ true → d m ≤ d e.owner + 1

-- an entry for a module that the viewer can import from the entry's module: its number is at most k
unfoldable pub Nearer : Snapshot → FindPathCtx → (ℕ → ℕ) → ℕ → Scope → Type 0
Nearer s x d k e = imports s x (entry_module s e) e.owner ≡ true → d (entry_module s e) ≤ k

-- so, of an entry that the viewer can import
abbrev pub Relaxed : Snapshot → FindPathCtx → (ℕ → ℕ) → ℕ → Scope → Type 0
Relaxed s x d k e = is_importable s x e ≡ true → Nearer s x d k e

-- Where the word of a module is a module's number +1, the viewer cannot import the former from the latter.
unfoldable pub Tried : Snapshot → FindPathCtx → List ℕ → Type 0
Tried s x T = (m c : ℕ) → get_or T m 0 ≡ c + 1 → imports s x m c ≡ false

-- so, of the entries of the module c
unfoldable pub Opened : Snapshot → FindPathCtx → (ℕ → ℕ) → ℕ → ℕ → Scope → Type 0
Opened s x d c k e = is_module_entry s c e ≡ true → Nearer s x d k e

abbrev pub is_keyword : Snapshot → FindPathCtx → ℕ → Bool
is_keyword s x m = (keyword_of s x (is_kw_kind_relative_to_from s x m)).found

-- Numbers that are at most 1 where a rule may answer.
pub record Ruled (s : Snapshot) (x : FindPathCtx) (n : ℕ) (d : ℕ → ℕ) : Type 0 where
  pub roots : (m : ℕ) → m < n → crate_root s m ≡ m → d m ≤ 1
  pub keywords : (m : ℕ) → is_keyword s x m ≡ true → d m ≤ 1
  pub scope : may_be_in_scope s x ≡ true → Each (λ a. Each (Named s d a) s.scopes) (ancestor_maps s x.from.0)
  pub prelude : (p : Prelude) → prelude_of s (map_no s x.from.0) ≡ Some p → Each (Named s d p.target) s.scopes

-- Numbers that are at most 1 where a rule answers.
abbrev pub Answering : Snapshot → FindPathCtx → ℕ → (ℕ → ℕ) → Type 0
Answering s x n d = (m : ℕ) → m < n → ruled s x m ≡ true → d m ≤ 1

-- the modules that the walk past no visited module takes
abbrev pub walk : Snapshot → FindPathCtx → List ℕ
walk s x = find_local_import_locations s x.from.0 (λ _. false)

-- the same of the entries of the modules that are walked to
abbrev pub Onward : Snapshot → FindPathCtx → (ℕ → ℕ) → Scope → Type 0
Onward s x d e = has (walk s x) e.owner ≡ true → Stepped s x d e

-- They grow by at most 1 with each entry of a module that is walked to, too.
pub record Closed (s : Snapshot) (x : FindPathCtx) (n : ℕ) (d : ℕ → ℕ) : Type 0 where
  pub answers : Answering s x n d
  pub steps : Each (Onward s x d) s.scopes
