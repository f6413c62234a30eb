-- How many words the kinds of a snapshot take, and where each kind begins.
use Prim.Native.Nat.{ℕ, ◌+◌, ◌*◌, ◌≤◌, ◌<◌}
use mathlib.Core.Path.{◌≡◌, refl, ◌∙◌, ap, ap₂}
use mathlib.Core.List.{List, [], ◌∷◌, ◌++◌}
use mathlib.Core.Bool.{false}
use native.Mathlib.Omega.{arith}
use borrow.Author.Tests.{eqb-true, eqb-false, ne_eqb}
use lib.Dec.{eqb}
use lib.ListN.{length, length-append}
use Rattle.snapshot.specs.Records.{Map, Module, Snapshot}
use Rattle.snapshot.specs.Sizes.{crate_size, dependency_size, map_size, module_size, child_size, prelude_size, definition_size, scope_size}
use Rattle.snapshot.specs.Sizes.{import_size}
use Rattle.snapshot.specs.Sizes.{extern_size, member_size}
use Rattle.accept.specs.Valid.{Each, none, more}
use Rattle.accept.proofs.Accepted.{by_test}
use Rattle.edit_rules.specs.Entries.{scope_words}
use Rattle.edit_rules.specs.Written.{name_words, crate_words, dependency_words, map_words, module_words, child_words, prelude_words, definition_words}
use Rattle.edit_rules.specs.Written.{import_words, extern_words, member_words, each_words, words_within, tree_words, kinds_words, joined}
use Rattle.edit_rules.specs.Written.{snapshot_words}
use Rattle.join_rules.proofs.Lists.{sized_length}

-- the words of maps and modules

within_not : (k : ℕ) (x : Module) → eqb x.map k ≡ false → words_within k x ≡ []
within_not k x e = rw (words_within, e)

-- a module of none of the maps
tree_skip : (k : ℕ) (ms : List Map) (x : Module) (xs : List Module) → x.map < k → tree_words k ms (x ∷ xs) ≡ tree_words k ms xs
unfolding tree_words each_words
tree_skip k [] x xs h = refl
tree_skip k (m ∷ ms) x xs h =
    let a = within_not k x (ne_eqb x.map k (λ e. omega arith)) in
    ap₂ (λ c d. map_words m ++ ((c ++ each_words (words_within k) xs) ++ d)) a (tree_skip (k + 1) ms x xs (omega arith))

-- a module of one of them
tree_grow : (k : ℕ) (ms : List Map) (x : Module) (xs : List Module) → k ≤ x.map → x.map < k + length ms
    → length (tree_words k ms (x ∷ xs)) ≡ module_size + length (tree_words k ms xs)
unfolding tree_words each_words
tree_grow k [] x xs l h = absurd (omega arith)
tree_grow k (m ∷ ms) x xs l h =
    let a = each_words (words_within k) xs in
    let b = tree_words (k + 1) ms xs in
    by_test (eqb x.map k)
    (λ t.
    let e = eqb-true x.map k t in
    let w : words_within k x ≡ module_words x = rw (words_within, t) in
    let q = ap length (ap₂ (λ c d. map_words m ++ ((c ++ a) ++ d)) w (tree_skip (k + 1) ms x xs (omega arith))) in
    omega arith)
    (λ t.
    let e = eqb-false x.map k t in
    let r = tree_grow (k + 1) ms x xs (omega arith) (omega arith) in
    let q = ap length (ap (λ c. map_words m ++ ((c ++ a) ++ tree_words (k + 1) ms (x ∷ xs))) (within_not k x t)) in
    let i = length-append a (tree_words (k + 1) ms (x ∷ xs)) in
    let j = length-append a b in
    omega arith)

tree_none : (k : ℕ) (ms : List Map) → length (tree_words k ms []) ≡ map_size * length ms
unfolding tree_words each_words
tree_none k [] = refl
tree_none k (m ∷ ms) = let r = tree_none (k + 1) ms in omega arith

pub tree_length : (ms : List Map) (xs : List Module) → Each (λ x. x.map < length ms) xs
    → length (tree_words 0 ms xs) ≡ map_size * length ms + module_size * length xs
tree_length ms [] none = tree_none 0 ms ∙ omega arith
tree_length ms (x ∷ xs) (more h hs) =
    let r = tree_length ms xs hs in
    let g = tree_grow 0 ms x xs (omega arith) (omega arith) in
    omega arith

-- the words of all kinds

sum_of : List (List ℕ) → ℕ
sum_of [] = 0
sum_of (w ∷ ws) = length w + sum_of ws

joined_length : (ws : List (List ℕ)) → length (joined ws) ≡ sum_of ws
unfolding joined sum_of
joined_length [] = refl
joined_length (w ∷ ws) = length-append w (joined ws) ∙ ap (λ n. length w + n) (joined_length ws)

-- how many words each kind but names takes
pub record Sizes (s : Snapshot) : Type 0 where
  pub crates : length (each_words crate_words s.crates) ≡ crate_size * length s.crates
  pub dependencies : length (each_words dependency_words s.dependencies) ≡ dependency_size * length s.dependencies
  pub tree : length (tree_words 0 s.maps s.modules) ≡ map_size * length s.maps + module_size * length s.modules
  pub children : length (each_words child_words s.children) ≡ child_size * length s.children
  pub preludes : length (each_words prelude_words s.preludes) ≡ prelude_size * length s.preludes
  pub definitions : length (each_words definition_words s.definitions) ≡ definition_size * length s.definitions
  pub scopes : length (each_words scope_words s.scopes) ≡ scope_size * length s.scopes
  pub imports : length (each_words import_words s.imports) ≡ import_size * length s.imports
  pub externs : length (each_words extern_words s.externs) ≡ extern_size * length s.externs
  pub members : length (each_words member_words s.members) ≡ member_size * length s.members

pub sizes : (s : Snapshot) → Each (λ x. x.map < length s.maps) s.modules → Sizes s
unfolding scope_words
sizes s known =
    record {
      crates = sized_length crate_words crate_size (λ x. refl) s.crates;
      dependencies = sized_length dependency_words dependency_size (λ x. refl) s.dependencies;
      tree = tree_length s.maps s.modules known;
      children = sized_length child_words child_size (λ x. refl) s.children;
      preludes = sized_length prelude_words prelude_size (λ x. refl) s.preludes;
      definitions = sized_length definition_words definition_size (λ x. refl) s.definitions;
      scopes = sized_length scope_words scope_size (λ x. refl) s.scopes;
      imports = sized_length import_words import_size (λ x. refl) s.imports;
      externs = sized_length extern_words extern_size (λ x. refl) s.externs;
      members = sized_length member_words member_size (λ x. refl) s.members;
    }

-- the words before and in a kind
pub snapshot_length : (s : Snapshot) → Sizes s → length (snapshot_words s)
    ≡ length (each_words name_words s.names) + crate_size * length s.crates + dependency_size * length s.dependencies + map_size
    * length s.maps
    + module_size * length s.modules + child_size * length s.children + prelude_size * length s.preludes + definition_size *
    length s.definitions
    + scope_size * length s.scopes + import_size * length s.imports + extern_size * length s.externs + member_size * length s.members
unfolding snapshot_words sum_of
snapshot_length s z = let e = joined_length (kinds_words s) in omega arith
