-- Children stand under their owners, macros are of kind 5, own maps are one a crate, and nothing stands twice. Every record stands at its place.
use mathlib.Core.Path.{◌≡◌, ap, sym, ◌∙◌}
use Prim.Native.Nat.{ℕ, ◌+◌, ◌<◌}
use native.Mathlib.Omega.{arith}
use mathlib.Core.List.{List, [], ◌∷◌, ◌++◌}
use mathlib.Core.Bool.{Bool, true, false, ◌&&◌, ◌||◌, not, true≢false}
use lib.Dec.{eqb, ltb, leb}
use lib.ListN.{length, get_or}
use borrow.Author.Tests.{eqb-true, eq-eqb, ltb-true}
use Rattle.snapshot.specs.Lists.{any}
use Rattle.snapshot.specs.Records.{Snapshot, Map, Module, Child, Definition, Scope, Import}
use Rattle.check_rules.specs.Tests.{counts_of, no_name, no_map, no_module, no_definition, map_of, kind_of_definition, is_in, is_own, maps_filled}
use Rattle.check_rules.specs.Tests.{crates_own, child_defined, child_placed, ns_placed, map_repeated, same_definition, definition_repeated}
use Rattle.check_rules.specs.Tests.{same_name, same_child, same_prelude, same_entry, same_extern, scope_defined, import_defined}
use Rattle.check_rules.specs.Verdict.{accept, verdict}
use Rattle.accept.specs.Valid.{Each, none, Placed as PlacedIn, map_in, parent_in, block_in, crate_in, definition_in, Under, MacroOnly, Owned}
use Rattle.accept.specs.Valid.{DefinedOnce, Once}
use Rattle.accept.proofs.Accepted.{Keeps, keeps_of, verdict_keeps}
use Rattle.accept.proofs.Bools.{and_two, and_four, and_five, unless_right, length_snoc, get_or_old, get_or_new, old_or_new, any_none, any_some}
use Rattle.accept.proofs.Bools.{all_below, distinct_snoc, each_map, each_snoc}

-- children

record Placed (xs : List Module) (x : Child) : Type 0 where
  known : x.child < length xs
  under : Under xs x

abbrev Children : Snapshot → Type 0
Children s = Each (Placed s.modules) s.children

child_kept : (xs : List Module) (y : Module) (x : Child) → Placed xs x → Placed (xs ++ (y ∷ [])) x
child_kept xs y x h =
    let n = length_snoc xs y in
    record { known = omega (arith, h.known); under = ap (λ (z : Module). z.parent) (get_or_old xs y no_module x.child h.known) ∙ h.under }

child_placed_lem : (s : Snapshot) (y : Child) → child_defined (counts_of s) y ≡ true → child_placed s y ≡ true → Placed s.modules y
child_placed_lem s y d p =
    let q = and_two (ltb y.owner (length s.modules)) (ltb y.child (length s.modules)) d in
    let r = and_two (eqb (map_of s y.child) (map_of s y.owner)) (eqb (parent_in s.modules y.child) (y.owner + 1)) p in
    record { known = ltb-true y.child (length s.modules) q.1; under = eqb-true (parent_in s.modules y.child) (y.owner + 1) r.1 }

children_kept : {W : List ℕ} → Keeps W Children
children_kept =
    record {
      names = λ s y p h. h;
      crates = λ s y p h. h;
      dependencies = λ s y p h. h;
      maps = λ s y p h. h;
      modules = λ s y p h. each_map (child_kept s.modules y) h;
      children = λ s y p h. each_snoc h (child_placed_lem s y p.known p.right);
      preludes = λ s y p h. h;
      definitions = λ s y o p h. h;
      scopes = λ s y o p h. h;
      imports = λ s y o p h. h;
      externs = λ s y o p h. h;
      members = λ s y p h. h;
    }

-- macros

record Macro (ds : List Definition) (ns d : ℕ) : Type 0 where
  known : d < length ds
  only : MacroOnly ds ns d

macro_kept : (ds : List Definition) (y : Definition) (ns d : ℕ) → Macro ds ns d → Macro (ds ++ (y ∷ [])) ns d
macro_kept ds y ns d h =
    let n = length_snoc ds y in
    record {
      known = omega (arith, h.known);
      only = λ k. ap (λ (z : Definition). z.kind) (get_or_old ds y no_definition d h.known) ∙ h.only k;
    }

macro_placed : (s : Snapshot) (ns d : ℕ) → ltb d (length s.definitions) ≡ true → ns_placed s ns d ≡ true → Macro s.definitions ns d
macro_placed s ns d l p =
    record {
      known = ltb-true d (length s.definitions) l;
      only = λ k. eqb-true (kind_of_definition s d) 5 (unless_right (eqb ns 2) (eqb (kind_of_definition s d) 5) p (eq-eqb ns 2 k));
    }

scope_definition : (s : Snapshot) (y : Scope) → scope_defined (counts_of s) y ≡ true → ltb y.definition (length s.definitions) ≡ true
scope_definition s y e =
    (and_five (ltb y.owner (length s.modules)) (ltb y.name (length s.names)) (ltb y.definition (length s.definitions))
    (not (eqb y.visibility 1) || ltb y.number (length s.crates)) (leb y.visibility 1 || ltb y.number (length s.modules)) e).2

import_definition : (s : Snapshot) (y : Import) → import_defined (counts_of s) y ≡ true → ltb y.definition (length s.definitions) ≡ true
import_definition s y e =
    (and_four (ltb y.owner (length s.crates)) (ltb y.definition (length s.definitions)) (ltb y.name (length s.names))
    (ltb y.container (length s.modules)) e).1

record Macros (ds : List Definition) (xs : List Scope) (is : List Import) : Type 0 where
  entries : Each (λ x. Macro ds x.ns x.definition) xs
  imported : Each (λ x. Macro ds x.ns x.definition) is

abbrev HasMacros : Snapshot → Type 0
HasMacros s = Macros s.definitions s.scopes s.imports

macros_kept : {W : List ℕ} → Keeps W HasMacros
macros_kept =
    record {
      names = λ s y p h. h;
      crates = λ s y p h. h;
      dependencies = λ s y p h. h;
      maps = λ s y p h. h;
      modules = λ s y p h. h;
      children = λ s y p h. h;
      preludes = λ s y p h. h;
      definitions = λ s y o p h.
          record {
            entries = each_map (λ (x : Scope) q. macro_kept s.definitions y x.ns x.definition q) h.entries;
            imported = each_map (λ (x : Import) q. macro_kept s.definitions y x.ns x.definition q) h.imported;
          };
      scopes = λ s y o p h.
          record {
            entries = each_snoc h.entries (macro_placed s y.ns y.definition (scope_definition s y p.known) p.right);
            imported = h.imported;
          };
      imports = λ s y o p h.
          record {
            entries = h.entries;
            imported = each_snoc h.imported (macro_placed s y.ns y.definition (import_definition s y p.known) p.right);
          };
      externs = λ s y o p h. h;
      members = λ s y p h. h;
    }

-- own maps

abbrev OwnOnce : List Map → Type 0
OwnOnce ms = (i j : ℕ) → i < j → j < length ms → block_in ms i ≡ 0 → block_in ms j ≡ 0 → crate_in ms i ≡ crate_in ms j → ⊥

abbrev HasOwnOnce : Snapshot → Type 0
HasOwnOnce s = OwnOnce s.maps

and_false : (a b : Bool) → a && b ≡ false → a ≡ true → b ≡ false
and_false true b e h = e
and_false false b e h = absurd (true≢false (sym h))

block_is : {x y : Map} → x ≡ y → x.block ≡ y.block
block_is e = ap (λ (z : Map). z.block) e

crate_is : {x y : Map} → x ≡ y → x.crate ≡ y.crate
crate_is e = ap (λ (z : Map). z.crate) e

kind_is : {x y : Definition} → x ≡ y → x.kind ≡ y.kind
kind_is e = ap (λ (z : Definition). z.kind) e

first_is : {x y : Definition} → x ≡ y → x.first ≡ y.first
first_is e = ap (λ (z : Definition). z.first) e

own_new : (x : Map) (c : ℕ) → is_own c x ≡ false → x.crate ≡ c → x.block ≡ 0 → ⊥
own_new x c n p q =
    let z : true && eqb x.block 0 ≡ false = rw (eq-eqb x.crate c p) at n in
    true≢false (sym (eq-eqb x.block 0 q) ∙ z)

own_added : (s : Snapshot) (y : Map) → map_repeated s y ≡ false → OwnOnce s.maps → OwnOnce (s.maps ++ (y ∷ []))
own_added s y e h i j l k a b c = old_or_new s.maps y j k
    (λ o.
    let oi : i < length s.maps = omega arith in
    let fi = get_or_old s.maps y no_map i oi in
    let fj = get_or_old s.maps y no_map j o in
    h i j l o (sym (block_is fi) ∙ a) (sym (block_is fj) ∙ b) (sym (crate_is fi) ∙ c ∙ crate_is fj))
    (λ q.
    let oi : i < length s.maps = omega arith in
    let fi = get_or_old s.maps y no_map i oi in
    let fj = get_or_new s.maps y no_map j q in
    let first = and_false (eqb y.block 0) (any (is_own y.crate) s.maps) e (eq-eqb y.block 0 (sym (block_is fj) ∙ b)) in
    own_new (get_or s.maps i no_map) y.crate (any_none (is_own y.crate) s.maps no_map i first oi)
    (sym (crate_is fi) ∙ c ∙ crate_is fj) (sym (block_is fi) ∙ a))

own_kept : {W : List ℕ} → Keeps W HasOwnOnce
own_kept = keeps_of (λ ms xs ds. OwnOnce ms) (λ s y p h. own_added s y p.new h) (λ s y p h. h) (λ s y p h. h)

-- definitions of modules and of builtins

definition_new : (y x : Definition) → same_definition y x ≡ false → x.kind ≡ y.kind → x.first ≡ y.first → ⊥
definition_new y x n p q =
    let z : true && eqb y.first x.first ≡ false = rw (eq-eqb y.kind x.kind (sym p)) at n in
    true≢false (sym (eq-eqb y.first x.first (sym q)) ∙ z)

module _ (k : ℕ) (once : eqb k 1 || eqb k 3 ≡ true) where
  abbrev HasOnce : Snapshot → Type 0
  HasOnce s = DefinedOnce k s.definitions

  definition_added : (s : Snapshot) (y : Definition) → definition_repeated s y ≡ false → HasOnce s → DefinedOnce k (s.definitions ++ (y ∷ []))
  definition_added s y e h i j l b p q r = old_or_new s.definitions y j b
      (λ o.
      let oi : i < length s.definitions = omega arith in
      let fi = get_or_old s.definitions y no_definition i oi in
      let fj = get_or_old s.definitions y no_definition j o in
      h i j l o (sym (kind_is fi) ∙ p) (sym (kind_is fj) ∙ q) (sym (first_is fi) ∙ r ∙ first_is fj))
      (λ n.
      let oi : i < length s.definitions = omega arith in
      let fi = get_or_old s.definitions y no_definition i oi in
      let fj = get_or_new s.definitions y no_definition j n in
      let yk : y.kind ≡ k = sym (kind_is fj) ∙ q in
      let none-such =
      and_false (eqb y.kind 1 || eqb y.kind 3) (any (same_definition y) s.definitions) e
      (ap (λ (z : ℕ). eqb z 1 || eqb z 3) yk ∙ once) in
      definition_new y (definition_in s.definitions i) (any_none (same_definition y) s.definitions no_definition i none-such oi)
      (sym (kind_is fi) ∙ p ∙ sym yk) (sym (first_is fi) ∙ r ∙ first_is fj))

  definitions_kept : {W : List ℕ} → Keeps W HasOnce
  definitions_kept =
      keeps_of (λ ms xs ds. DefinedOnce k ds) (λ s y p h. h) (λ s y p h. h) (λ s y p h. definition_added s y p.new h)

  pub accepted_defined : (W : List ℕ) (s : Snapshot) → verdict W ≡ accept s → DefinedOnce k s.definitions
  accepted_defined W s e = (verdict_keeps W HasOnce definitions_kept (λ i j l b p q r. omega arith) s e).kept

-- nothing twice

once_kept : {W : List ℕ} → Keeps W Once
once_kept =
    record {
      names = λ s y p h. record {
        names = distinct_snoc same_name no_name s.names y p.new h.names;
        children = h.children;
        preludes = h.preludes;
        scopes = h.scopes;
        externs = h.externs;
      };
      crates = λ s y p h. record { names = h.names; children = h.children; preludes = h.preludes; scopes = h.scopes; externs = h.externs };
      dependencies = λ s y p h. record { names = h.names; children = h.children; preludes = h.preludes; scopes = h.scopes; externs = h.externs };
      maps = λ s y p h. record { names = h.names; children = h.children; preludes = h.preludes; scopes = h.scopes; externs = h.externs };
      modules = λ s y p h. record { names = h.names; children = h.children; preludes = h.preludes; scopes = h.scopes; externs = h.externs };
      children = λ s y p h. record {
        names = h.names;
        children = distinct_snoc same_child _ s.children y p.new h.children;
        preludes = h.preludes;
        scopes = h.scopes;
        externs = h.externs;
      };
      preludes = λ s y p h. record {
        names = h.names;
        children = h.children;
        preludes = distinct_snoc same_prelude _ s.preludes y
            p.new h.preludes;
        scopes = h.scopes;
        externs = h.externs;
      };
      definitions = λ s y o p h. record {
        names = h.names;
        children = h.children;
        preludes = h.preludes;
        scopes = h.scopes;
        externs = h.externs;
      };
      scopes = λ s y o p h. record {
        names = h.names;
        children = h.children;
        preludes = h.preludes;
        scopes = distinct_snoc same_entry _
            s.scopes y p.new h.scopes;
        externs = h.externs;
      };
      imports = λ s y o p h. record { names = h.names; children = h.children; preludes = h.preludes; scopes = h.scopes; externs = h.externs };
      externs = λ s y o p h. record {
        names = h.names;
        children = h.children;
        preludes = h.preludes;
        scopes = h.scopes;
        externs =
            distinct_snoc same_extern _ s.externs y p.new h.externs;
      };
      members = λ s y p h. record { names = h.names; children = h.children; preludes = h.preludes; scopes = h.scopes; externs = h.externs };
    }

-- places

places_kept : {W : List ℕ} → Keeps W (PlacedIn W)
places_kept =
    record {
      names = λ s y p h. record { definitions = h.definitions; scopes = h.scopes; imports = h.imports; externs = h.externs };
      crates = λ s y p h. record { definitions = h.definitions; scopes = h.scopes; imports = h.imports; externs = h.externs };
      dependencies = λ s y p h. record { definitions = h.definitions; scopes = h.scopes; imports = h.imports; externs = h.externs };
      maps = λ s y p h. record { definitions = h.definitions; scopes = h.scopes; imports = h.imports; externs = h.externs };
      modules = λ s y p h. record { definitions = h.definitions; scopes = h.scopes; imports = h.imports; externs = h.externs };
      children = λ s y p h. record { definitions = h.definitions; scopes = h.scopes; imports = h.imports; externs = h.externs };
      preludes = λ s y p h. record { definitions = h.definitions; scopes = h.scopes; imports = h.imports; externs = h.externs };
      definitions = λ s y o p h. record {
        definitions = each_snoc h.definitions o;
        scopes = h.scopes;
        imports = h.imports;
        externs = h.externs;
      };
      scopes = λ s y o p h. record { definitions = h.definitions; scopes = each_snoc h.scopes o; imports = h.imports; externs = h.externs };
      imports = λ s y o p h. record { definitions = h.definitions; scopes = h.scopes; imports = each_snoc h.imports o; externs = h.externs };
      externs = λ s y o p h. record { definitions = h.definitions; scopes = h.scopes; imports = h.imports; externs = each_snoc h.externs o };
      members = λ s y p h. record { definitions = h.definitions; scopes = h.scopes; imports = h.imports; externs = h.externs };
    }

module _ (W : List ℕ) (s : Snapshot) (e : verdict W ≡ accept s) where
  pub accepted_children : Each (Under s.modules) s.children
  accepted_children = each_map (λ x h. h.under) (verdict_keeps W Children children_kept none s e).kept

  kept_macros : HasMacros s
  kept_macros = (verdict_keeps W HasMacros macros_kept (record { entries = none; imported = none }) s e).kept

  pub accepted_scopes : Each (λ x. MacroOnly s.definitions x.ns x.definition) s.scopes
  accepted_scopes = each_map (λ x h. h.only) kept_macros.entries

  pub accepted_imports : Each (λ x. MacroOnly s.definitions x.ns x.definition) s.imports
  accepted_imports = each_map (λ x h. h.only) kept_macros.imported

  last_tests : (maps_filled s ≡ true) × (crates_own s ≡ true)
  last_tests = and_two (maps_filled s) (crates_own s) (verdict_keeps W HasOwnOnce own_kept (λ i j l k a b c. omega arith) s e).whole

  pub accepted_filled : (k : ℕ) → k < length s.maps → (m : ℕ) × (m < length s.modules) × (map_in s.modules m ≡ k)
  accepted_filled k h =
      let f = any_some (is_in k) s.modules no_module (all_below (λ k. any (is_in k) s.modules) (length s.maps) k last_tests.0 h) in
      (f.0, f.1, eqb-true (map_in s.modules f.0) k f.2)

  pub accepted_owned : Owned (length s.crates) s.maps
  accepted_owned =
      record {
        some = λ c h.
            let f = any_some (is_own c) s.maps no_map (all_below (λ c. any (is_own c) s.maps) (length s.crates) c last_tests.1 h) in
            let g = and_two (eqb (crate_in s.maps f.0) c) (eqb (block_in s.maps f.0) 0) f.2 in
            (f.0, f.1, eqb-true (crate_in s.maps f.0) c g.0, eqb-true (block_in s.maps f.0) 0 g.1);
        once = (verdict_keeps W HasOwnOnce own_kept (λ i j l k a b c. omega arith) s e).kept;
      }

  pub accepted_once : Once s
  accepted_once =
      (verdict_keeps W Once once_kept
      (record {
        names = λ i j l h. absurd (omega arith);
        children = λ i j l h. absurd (omega arith);
        preludes = λ i j l h. absurd (omega arith);
        scopes = λ i j l h. absurd (omega arith);
        externs = λ i j l h. absurd (omega arith);
      })
      s e).kept

  -- Every record that a path can be found by stands at its place.
  pub accepted_placed : PlacedIn W s
  accepted_placed =
      (verdict_keeps W (PlacedIn W) places_kept (record { definitions = none; scopes = none; imports = none; externs = none }) s e).kept
