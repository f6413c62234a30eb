-- The chains and marks along the steps.
use Prim.Native.Nat.{ℕ, ◌+◌, ◌-◌, ◌*◌, ◌%◌, ◌≤◌, ◌<◌}
use mathlib.Core.Path.{◌≡◌, refl, sym, ◌∙◌, ap, subst}
use mathlib.Core.Logic.{◌≢◌}
use mathlib.Core.List.{List}
use mathlib.Core.Bool.{Bool, true, false}
use native.Mathlib.Omega.{arith}
use lib.ListN.{length, get_or, set, length-set}
use lib.Seq.{get_or-set_same, get_or-set_other}
use Rattle.snapshot.specs.Lists.{any}
use Rattle.snapshot.specs.Limits.{name_limit, area_limit}
use Rattle.snapshot.specs.Sizes.{child_size, definition_size, scope_size, extern_size}
use Rattle.snapshot.specs.Records.{Name, name_at}
use Rattle.snapshot.specs.Layouts.{child_base, definition_base, scope_base, extern_base, no_records, name_head, names_of, module_table, row_words}
use Rattle.snapshot.specs.declared.layout.Layout.{Layout}
use Rattle.check_records.specs.chains.Chains.{keys, name_key, record_key, slot_of, Marked, Last, Chained, linked, name_heads, scope_heads}
use Rattle.check_records.specs.chains.Chains.{extern_heads}
use Rattle.check_records.specs.chains.Chains.{child_marks}
use Rattle.check_records.specs.chains.Chains.{module_marks, marks_end, name_links, scope_links, extern_links}
use Rattle.check_records.proofs.chains.Laws.{marked_none, marked_kept, chained_kept, chained_none, chained_linked, linked_other, first_of}
use Rattle.check_records.proofs.chains.Laws.{next_of, Walking}
use Rattle.check_records.proofs.chains.Laws.{walk_start, walk_hit, walk_miss, walk_end_lem}
use Rattle.check_rules.specs.Tests.{same_name}
use Rattle.check_rules.proofs.Names.{name_equal}
use Rattle.check_records.specs.record_rules.Stands.{Upto, Indexes}

-- the words of a table, from one place to another, are kept
abbrev pub Kept : List ℕ → List ℕ → ℕ → ℕ → Type 0
Kept A B from to = (i : ℕ) → from ≤ i → i < to → get_or B i 0 ≡ get_or A i 0

-- the words past the tables are kept
abbrev pub Above : List ℕ → List ℕ → Type 0
Above A B = (i : ℕ) → row_words ≤ i → get_or B i 0 ≡ get_or A i 0

pub set_kept : (A : List ℕ) (i v from to : ℕ) → ((j : ℕ) → from ≤ j → j < to → j ≢ i) → Kept A (set A i v) from to
set_kept A i v from to h j p q = get_or-set_other A i j v 0 (h j p q)

pub set_above : (A : List ℕ) (i v : ℕ) → i < row_words → Above A (set A i v)
set_above A i v h j p = get_or-set_other A i j v 0 (omega arith)

abbrev key_at : List ℕ → List ℕ → ℕ → ℕ
key_at W B i = name_key (name_at W (name_head B i))

pub key_small : (n : ℕ) {key : ℕ} → key ≡ n % keys → key < keys
key_small n e = omega arith

-- before the first record
pub indexes_none : (W A : List ℕ) → ((i : ℕ) → row_words ≤ i → i < marks_end → get_or A i 0 ≡ 0) → Indexes W A no_records
indexes_none W A z =
    record {
      names = chained_none A name_heads name_links _ (λ b h. z _ (omega arith) (omega arith));
      children = marked_none A child_marks _ (λ b h. z _ (omega arith) (omega arith));
      definitions = marked_none A module_marks _ (λ b h. z _ (omega arith) (omega arith));
      scopes = chained_none A scope_heads scope_links _ (λ b h. z _ (omega arith) (omega arith));
      externs = chained_none A extern_heads extern_links _ (λ b h. z _ (omega arith) (omega arith));
    }

-- m has the records of l of the kinds that are indexed, at the same places
pub record SameRuns (l m : Layout) : Type 0 where
  pub names : m.names ≡ l.names
  pub children : m.children ≡ l.children
  pub definitions : m.definitions ≡ l.definitions
  pub scopes : m.scopes ≡ l.scopes
  pub externs : m.externs ≡ l.externs
  pub child : 0 < l.children → child_base m ≡ child_base l
  pub definition : 0 < l.definitions → definition_base m ≡ definition_base l
  pub scope : 0 < l.scopes → scope_base m ≡ scope_base l
  pub extern : 0 < l.externs → extern_base m ≡ extern_base l

-- a record of another kind
pub indexes_kept : (W A B : List ℕ) (l m : Layout) → Indexes W A l → l.names ≤ name_limit → Kept A B 0 module_table → Above A B
    → SameRuns l m → Indexes W B m
indexes_kept W A B l m ix few heads above s =
    record {
      names =
          subst (λ k. Chained B name_heads name_links (λ i. name_key (name_at W (name_head B i))) k) (sym s.names)
          (chained_kept A B name_heads name_links _ _ l.names ix.names (λ b h. above _ (omega arith)) (λ i h. above _ (omega arith))
          (λ i h. ap (λ x. name_key (name_at W x)) (heads i (omega arith) (omega arith))));
      children =
          subst (λ k. Marked B child_marks (λ j. get_or W (child_base m + child_size * j + 1) 0) k) (sym s.children)
          (marked_kept A B child_marks _ _ l.children ix.children (λ b h. above _ (omega arith))
          (λ i h. ap (λ x. get_or W (x + child_size * i + 1) 0) (s.child (omega arith))));
      definitions =
          subst (λ k. Marked B module_marks (λ j. slot_of W (definition_base m + definition_size * j)) k) (sym s.definitions)
          (marked_kept A B module_marks _ _ l.definitions ix.definitions (λ b h. above _ (omega arith))
          (λ i h. ap (λ x. slot_of W (x + definition_size * i)) (s.definition (omega arith))));
      scopes =
          subst (λ k. Chained B scope_heads scope_links (λ i. record_key W 2 (scope_base m + scope_size * i)) k) (sym s.scopes)
          (chained_kept A B scope_heads scope_links _ _ l.scopes ix.scopes (λ b h. above _ (omega arith)) (λ i h. above _ (omega arith))
          (λ i h. ap (λ x. record_key W 2 (x + scope_size * i)) (s.scope (omega arith))));
      externs =
          subst (λ k. Chained B extern_heads extern_links (λ i. record_key W 1 (extern_base m + extern_size * i)) k) (sym s.externs)
          (chained_kept A B extern_heads extern_links _ _ l.externs ix.externs (λ b h. above _ (omega arith)) (λ i h. above _ (omega arith))
          (λ i h. ap (λ x. record_key W 1 (x + extern_size * i)) (s.extern (omega arith))));
    }

-- before the kinds that stand after modules
pub record Early (k : ℕ) (l : Layout) : Type 0 where
  pub children : l.children ≡ 0
  pub definitions : l.definitions ≡ 0
  pub scopes : l.scopes ≡ 0
  pub externs : l.externs ≡ 0

pub early : (k : ℕ) (l : Layout) → Upto k l → k < 6 → Early k l
early k l u h =
    record {
      children = u.children h;
      definitions = u.definitions (omega arith);
      scopes = u.scopes (omega arith);
      externs =
          u.externs (omega arith);
    }

-- one name more: its head in the table, its number on the chain of its key
module _ (W A : List ℕ) (l : Layout) (at key : ℕ) (ix : Indexes W A l) (room : l.names < name_limit) (large : area_limit ≤ length A)
    (ek : key ≡ name_key (name_at W at)) where
  small : key < keys
  small = key_small _ ek

  old_chain : Chained (set A l.names at) name_heads name_links (key_at W (set A l.names at)) l.names
  old_chain =
      chained_kept A (set A l.names at) name_heads name_links _ _ l.names ix.names
      (λ b h. set_above A l.names at (omega arith) _ (omega arith)) (λ i h. set_above A l.names at (omega arith) _ (omega arith))
      (λ i h. ap (λ x. name_key (name_at W x)) (get_or-set_other A l.names i at 0 (omega arith)))

  new_chain : Chained (linked (set A l.names at) name_heads name_links key l.names) name_heads name_links (key_at W (set A l.names at))
      (l.names + 1)
  new_chain =
      let p = small in
      chained_linked (set A l.names at) name_heads name_links key l.names (key_at W (set A l.names at)) old_chain (omega arith)
      (simp length-set (omega arith)) small
      (ap (λ x. name_key (name_at W x)) (get_or-set_same A l.names at 0 (omega arith)) ∙ sym ek)

  pub name_stays : (i : ℕ) → i < row_words → get_or (linked (set A l.names at) name_heads name_links key l.names) i 0
      ≡ get_or (set A l.names at) i 0
  name_stays i h = linked_other (set A l.names at) name_heads name_links key l.names i (omega arith) (omega arith)

  head_stays : (i : ℕ) → scope_heads ≤ i → i < name_links → get_or (linked (set A l.names at) name_heads name_links key l.names) i 0 ≡ get_or A i 0
  head_stays i h k = let p = small in linked_other (set A l.names at) name_heads name_links key l.names i (omega arith) (omega arith)
      ∙ set_above A l.names at (omega arith) i (omega arith)

  pub names_linked : (m : Layout) → Early 1 l → Early 1 m → m.names ≡ l.names + 1
      → Indexes W (linked (set A l.names at) name_heads name_links key l.names) m
  names_linked m zl zm en =
      let zc = zl.children in
      let zd = zl.definitions in
      let zs = zl.scopes in
      let ze = zl.externs in
      record {
        names =
            subst (λ k. Chained (linked (set A l.names at) name_heads name_links key l.names) name_heads name_links
            (key_at W (linked (set A l.names at) name_heads name_links key l.names)) k) (sym en)
            (chained_kept (linked (set A l.names at) name_heads name_links key l.names)
            (linked (set A l.names at) name_heads name_links key l.names) name_heads name_links _ _ (l.names + 1) new_chain
            (λ b h. refl) (λ i h. refl) (λ i h. ap (λ x. name_key (name_at W x)) (name_stays i (omega arith))));
        children =
            subst (λ k. Marked (linked (set A l.names at) name_heads name_links key l.names) child_marks
            (λ j. get_or W (child_base m + child_size * j + 1) 0) k) (zc ∙ sym zm.children)
            (marked_kept A _ child_marks _ _ l.children ix.children (λ b h. head_stays _ (omega arith) (omega arith))
            (λ i h. absurd (omega arith)));
        definitions =
            subst (λ k. Marked (linked (set A l.names at) name_heads name_links key l.names) module_marks
            (λ j. slot_of W (definition_base m + definition_size * j)) k) (zd ∙ sym zm.definitions)
            (marked_kept A _ module_marks _ _ l.definitions ix.definitions (λ b h. head_stays _ (omega arith) (omega arith))
            (λ i h. absurd (omega arith)));
        scopes =
            subst (λ k. Chained (linked (set A l.names at) name_heads name_links key l.names) scope_heads scope_links
            (λ i. record_key W 2 (scope_base m + scope_size * i)) k) (zs ∙ sym zm.scopes)
            (chained_kept A _ scope_heads scope_links _ _ l.scopes ix.scopes (λ b h. head_stays _ (omega arith) (omega arith))
            (λ i h. absurd (omega arith)) (λ i h. absurd (omega arith)));
        externs =
            subst (λ k. Chained (linked (set A l.names at) name_heads name_links key l.names) extern_heads extern_links
            (λ i. record_key W 1 (extern_base m + extern_size * i)) k) (ze ∙ sym zm.externs)
            (chained_kept A _ extern_heads extern_links _ _ l.externs ix.externs (λ b h. head_stays _ (omega arith) (omega arith))
            (λ i h. absurd (omega arith)) (λ i h. absurd (omega arith)));
      }

-- names of the same text have the same key
pub name_key_same : (x y : Name) → same_name x y ≡ true → name_key y ≡ name_key x
name_key_same x y e = ap name_key (sym (name_equal x y e))

-- a walk along the names with the key of the name at a place
module _ (W A : List ℕ) (at n : ℕ) {key : ℕ} (ch : Chained A name_heads name_links (λ i. name_key (name_at W (name_head A i))) n)
    (ek : key ≡ name_key (name_at W at)) where
  only : (j : ℕ) → same_name (name_at W at) (name_at W (name_head A j)) ≡ true → name_key (name_at W (name_head A j)) ≡ key
  only j h = name_key_same (name_at W at) (name_at W (name_head A j)) h ∙ sym ek

  pub names_start : {k : ℕ} → k ≡ get_or A (name_heads + key) 0 → Walking (same_name (name_at W at)) (λ j. name_at W (name_head A j))
      (λ i. name_key (name_at W (name_head A i))) key n k
  names_start e = walk_start _ _ _ _ _ only (first_of A name_heads name_links _ n ch (key_small _ ek) e)

  module _ (k : ℕ) (w : Walking (same_name (name_at W at)) (λ j. name_at W (name_head A j)) (λ i. name_key (name_at W (name_head A i))) key n k)
      (go : k ≡ 0 → ⊥) {b : ℕ} {r : Bool} (eb : b ≡ name_head A (k - 1)) (er : r ≡ same_name (name_at W at) (name_at W b))
    where
      is : {t : Bool} → r ≡ t → same_name (name_at W at) (name_at W (name_head A (k - 1))) ≡ t
      is h = ap (λ x. same_name (name_at W at) (name_at W x)) (sym eb) ∙ sym er ∙ h

      pub names_hit : r ≡ true → true ≡ any (same_name (name_at W at)) (names_of W A n)
      names_hit h = walk_hit _ _ _ _ _ only k w (omega arith) (is h)

      module _ {d : ℕ} (ed : d ≡ get_or A (name_links + (k - 1)) 0) where
        further : Last (λ i. name_key (name_at W (name_head A i))) (name_key (name_at W (name_head A (k - 1)))) (k - 1) d
        further = let u = w.within in next_of A name_heads name_links _ n ch (omega arith) ed

        pub names_less : d < k
        names_less = let u = further.within in omega arith

        pub names_miss : r ≡ false
            → Walking (same_name (name_at W at)) (λ j. name_at W (name_head A j)) (λ i. name_key (name_at W (name_head A i))) key n d
        names_miss h = walk_miss _ _ _ _ _ only k w (omega arith) (is h) further

  pub names_end : (k : ℕ) → Walking (same_name (name_at W at)) (λ j. name_at W (name_head A j)) (λ i. name_key (name_at W (name_head A i))) key n k
      → k ≡ 0
      → false ≡ any (same_name (name_at W at)) (names_of W A n)
  names_end k w e = walk_end_lem _ _ _ _ _ only k w e
