-- Items of an embedded snapshot, and the lookups in its lists.
use Prim.Native.Nat.{ℕ, suc, ◌+◌, ◌≤◌, ◌<◌}
use mathlib.Core.Path.{◌≡◌, refl, sym, ◌∙◌, ap, subst}
use mathlib.Core.List.{List, [], ◌∷◌}
use mathlib.Core.Bool.{Bool, true, false, ◌&&◌}
use Rattle.std.specs.Prelude.{Option, None, Some}
use native.Mathlib.Omega.{arith}
use borrow.Author.Tests.{eqb-true, eqb-false, ne_eqb}
use lib.Dec.{eqb}
use lib.ListN.{length}
use Rattle.snapshot.specs.Records.{Snapshot, Definition}
use Rattle.check_rules.specs.Tests.{counts_of, no_definition}
use Rattle.accept.specs.Valid.{Valid, Each, none, more, DefinitionFits}
use Rattle.accept.proofs.Accepted.{by_test}
use Rattle.accept.proofs.Bools.{each_at}
use Rattle.hir_def.specs.Finds.{first_of, select}
use Rattle.hir_def.specs.Items.{types, module_kind, variant_kind, builtin_kind, definition_of, item_of, same_item, ns_of, home_by, home_of}
use Rattle.hir_def.specs.Items.{module_item}
use Rattle.hir_def.specs.Items.{defined_item}
use Rattle.hir_def.specs.declared.Item.{Item}
use Rattle.hir_def.specs.declared.Item.TheVariants.{Mod, Def}
use Rattle.find_path_spec.proofs.laws.Walks.{select_hit, select_miss}
use Rattle.join_rules.specs.Joined.{Numbers, or_none, first_to, second_to}
use Rattle.embedding.specs.Embeds.{Outside, Within, done, ours, theirs, Embeds, item_to}
use Rattle.embedding.proofs.Chains.{eqb_moved}

-- one answer and the other, alike or both none
pub data Both {A : Type 0} (Alike : A → A → Type 0) : Option A → Option A → Type 0 where
  neither : Both Alike None None
  each : {x z : A} → Alike x z → Both Alike (Some x) (Some z)

-- lists with elements alike, one after the other
pub data Along {A : Type 0} (Alike : A → A → Type 0) : List A → List A → Type 0 where
  end : Along Alike [] []
  next : {x z : A} {xs zs : List A} → Alike x z → Along Alike xs zs → Along Alike (x ∷ xs) (z ∷ zs)

pub first_hit : {A : Type 0} (t : A → Bool) (x : A) (xs : List A) → t x ≡ true → first_of t (x ∷ xs) ≡ Some x
unfolding first_of
first_hit t x xs e = rw (first_of, e)

pub first_miss : {A : Type 0} (t : A → Bool) (x : A) (xs : List A) → t x ≡ false → first_of t (x ∷ xs) ≡ first_of t xs
unfolding first_of
first_miss t x xs e = rw (first_of, e)

-- an element that was found, and its like: what is known of it, and that it passes the test
abbrev pub Hit : {A : Type 0} → (A → Type 0) → (A → A → Type 0) → (A → Bool) → A → A → Type 0
Hit P Alike p x z = P x × Alike x z × (p x ≡ true)

-- A test that tells alike elements alike, and that no other passes, finds the same.
module _ {A : Type 0} {P : A → Type 0} {Alike : A → A → Type 0} {Others : A → Type 0} (p q : A → Bool)
    (same : (x z : A) → P x → Alike x z → q z ≡ p x) (other : (z : A) → Others z → q z ≡ false)
  where
    pub first_within : {xs zs : List A} → Each P xs → Within Alike Others xs zs → Both (Hit P Alike p) (first_of p xs) (first_of q zs)
    unfolding first_of
    first_within none done = neither
    first_within (more {x = x} {xs = xs} f fs) (ours {z = z} {zs = zs} a r) =
        by_test (p x)
        (λ t. subst (λ o. Both (Hit P Alike p) (first_of p (x ∷ xs)) o) (sym (first_hit q z zs (same x z f a ∙ t)))
        (subst (λ o. Both (Hit P Alike p) o (Some z)) (sym (first_hit p x xs t)) (each (f, a, t))))
        (λ t. subst (λ o. Both (Hit P Alike p) (first_of p (x ∷ xs)) o) (sym (first_miss q z zs (same x z f a ∙ t)))
        (subst (λ o. Both (Hit P Alike p) o (first_of q zs)) (sym (first_miss p x xs t)) (first_within fs r)))
    first_within {xs} fs (theirs {z = z} {zs = zs} o r) =
        subst (λ y. Both (Hit P Alike p) (first_of p xs) y) (sym (first_miss q z zs (other z o))) (first_within fs r)

    pub select_within : {xs zs : List A} → Each P xs → Within Alike Others xs zs → Along (Hit P Alike p) (select p xs) (select q zs)
    unfolding select
    select_within none done = end
    select_within (more {x = x} {xs = xs} f fs) (ours {z = z} {zs = zs} a r) =
        by_test (p x)
        (λ t. subst (λ y. Along (Hit P Alike p) (select p (x ∷ xs)) y) (sym (select_hit q z zs (same x z f a ∙ t)))
        (subst (λ y. Along (Hit P Alike p) y (z ∷ select q zs)) (sym (select_hit p x xs t)) (next (f, a, t) (select_within fs r))))
        (λ t. subst (λ y. Along (Hit P Alike p) (select p (x ∷ xs)) y) (sym (select_miss q z zs (same x z f a ∙ t)))
        (subst (λ y. Along (Hit P Alike p) y (select q zs)) (sym (select_miss p x xs t)) (select_within fs r)))
    select_within {xs} fs (theirs {z = z} {zs = zs} o r) =
        subst (λ y. Along (Hit P Alike p) (select p xs) y) (sym (select_miss q z zs (other z o))) (select_within fs r)

-- a number that no other owns
pub outside_not : (f : ℕ → ℕ) (n k i : ℕ) → Outside f n k → i < n → eqb k (f i) ≡ false
outside_not f n k i h l = ne_eqb k (f i) (λ q. h i l (sym q))

-- items of the snapshot
abbrev pub Has : Snapshot → Item → Type 0
Has s (Mod m) = m.0 < length s.modules
Has s (Def ns d) = d.0 < length s.definitions

module _ (e : Numbers) (s u : Snapshot) (em : Embeds e s u) (v : Valid s) where
  pub kind_moved : (d : ℕ) → d < length s.definitions → (definition_of u (e.definitions d)).kind ≡ (definition_of s d).kind
  kind_moved d l = ap (λ (x : Definition). x.kind) (em.definitions d l)

  pub first_moved : (d : ℕ) → d < length s.definitions → (definition_of u (e.definitions d)).first ≡ first_to e (definition_of s d)
  first_moved d l = ap (λ (x : Definition). x.first) (em.definitions d l)

  pub second_moved : (d : ℕ) → d < length s.definitions → (definition_of u (e.definitions d)).second ≡ second_to e (definition_of s d)
  second_moved d l = ap (λ (x : Definition). x.second) (em.definitions d l)

  pub fits : (d : ℕ) → d < length s.definitions → DefinitionFits (counts_of s) (definition_of s d)
  unfolding definition_of
  fits d l = each_at no_definition d v.ranges.definitions l

  pub first_home : (d : ℕ) → d < length s.definitions → ((definition_of s d).kind ≡ 2 → ⊥) → ((definition_of s d).kind ≡ 3 → ⊥)
      → (definition_of u (e.definitions d)).first ≡ e.modules (definition_of s d).first
  first_home d l a b = first_moved d l ∙ rw (first_to, ne_eqb (definition_of s d).kind 2 a, ne_eqb (definition_of s d).kind 3 b)

  -- a variant's parent is of kind 4
  parent_four : (d : ℕ) → d < length s.definitions → (definition_of s d).kind ≡ 2 → (definition_of s (definition_of s d).first).kind ≡ 4
  unfolding definition_of
  parent_four d l k = (v.enums d l k).1

  -- the item of a namespace and a definition
  pub item_moved : (ns d : ℕ) → d < length s.definitions → item_of u ns (e.definitions d) ≡ item_to e (item_of s ns d)
  unfolding item_of item_to
  item_moved ns d l =
      let k = kind_moved d l in
      by_test (eqb ns types)
      (λ a. by_test (eqb (definition_of s d).kind module_kind)
      (λ b.
      let o = eqb-true (definition_of s d).kind 1 b in
      let f = first_home d l (λ z. omega arith) (λ z. omega arith) in
      let x : item_of s ns d ≡ module_item (definition_of s d).first = rw (item_of, a, b) in
      let c : eqb (definition_of u (e.definitions d)).kind module_kind ≡ true = ap (λ i. eqb i module_kind) k ∙ b in
      let y : item_of u ns (e.definitions d) ≡ module_item (definition_of u (e.definitions d)).first = rw (item_of, a, c) in
      y ∙ ap module_item f ∙ ap (item_to e) (sym x))
      (λ b.
      let x : item_of s ns d ≡ defined_item ns d = rw (item_of, a, b) in
      let c : eqb (definition_of u (e.definitions d)).kind module_kind ≡ false = ap (λ i. eqb i module_kind) k ∙ b in
      let y : item_of u ns (e.definitions d) ≡ defined_item ns (e.definitions d) = rw (item_of, a, c) in
      y ∙ ap (item_to e) (sym x)))
      (λ a.
      let x : item_of s ns d ≡ defined_item ns d = rw (item_of, a) in
      let y : item_of u ns (e.definitions d) ≡ defined_item ns (e.definitions d) = rw (item_of, a) in
      y ∙ ap (item_to e) (sym x))

  pub item_has : (ns d : ℕ) → d < length s.definitions → Has s (item_of s ns d)
  unfolding item_of
  item_has ns d l =
      by_test (eqb ns types)
      (λ a. by_test (eqb (definition_of s d).kind module_kind)
      (λ b.
      let o = eqb-true (definition_of s d).kind 1 b in
      let x : item_of s ns d ≡ module_item (definition_of s d).first = rw (item_of, a, b) in
      subst (Has s) (sym x) ((fits d l).home (λ z. omega arith) (λ z. omega arith)))
      (λ b. let x : item_of s ns d ≡ defined_item ns d = rw (item_of, a, b) in subst (Has s) (sym x) l))
      (λ a. let x : item_of s ns d ≡ defined_item ns d = rw (item_of, a) in subst (Has s) (sym x) l)

  pub same_moved : (a b : Item) → Has s a → Has s b → same_item (item_to e a) (item_to e b) ≡ same_item a b
  unfolding same_item item_to
  same_moved (Mod m) (Mod n) a b = eqb_moved e.modules (length s.modules) em.modules_apart m.0 n.0 a b
  same_moved (Mod m) (Def ns d) a b = refl
  same_moved (Def ns d) (Mod n) a b = refl
  same_moved (Def ns d) (Def ms c) a b = ap (λ i. eqb ns.0 ms.0 && i) (eqb_moved e.definitions (length s.definitions)
      em.definitions_apart d.0 c.0 a b)

  pub ns_moved : (a : Item) → ns_of (item_to e a) ≡ ns_of a
  unfolding ns_of item_to
  ns_moved (Mod m) = refl
  ns_moved (Def ns d) = refl

  -- "+1"
  one_more_lem : (f : ℕ → ℕ) (n : ℕ) → f n + 1 ≡ or_none f (n + 1)
  one_more_lem f n =
      let a : n + 1 ≡ suc n = omega arith in
      let b : f n + 1 ≡ suc (f n) = omega arith in
      b ∙ ap (or_none f) (sym a)

  -- an item's home
  pub home_moved : (a : Item) → Has s a → home_of u (item_to e a) ≡ or_none e.modules (home_of s a)
  unfolding home_of home_by item_to
  home_moved (Mod m) h = one_more_lem e.modules m.0
  home_moved (Def ns i) l =
      let d = i.0 in
      let k = kind_moved d l in
      let x = definition_of s d in
      let y = definition_of u (e.definitions d) in
      by_test (eqb x.kind builtin_kind)
      (λ a.
      let b : eqb y.kind builtin_kind ≡ true = ap (λ i. eqb i builtin_kind) k ∙ a in
      let p : home_by s x.kind x.first ≡ 0 = rw (home_by, a) in
      let q : home_by u y.kind y.first ≡ 0 = rw (home_by, b) in
      q ∙ ap (or_none e.modules) (sym p))
      (λ a.
      let b : eqb y.kind builtin_kind ≡ false = ap (λ i. eqb i builtin_kind) k ∙ a in
      by_test (eqb x.kind variant_kind)
      (λ c.
      let o = eqb-true x.kind 2 c in
      let d2 : eqb y.kind variant_kind ≡ true = ap (λ i. eqb i variant_kind) k ∙ c in
      let f = ((fits d l).variant o).0 in
      let four = parent_four d l o in
      let g : y.first ≡ e.definitions x.first = first_moved d l ∙ rw (first_to, c) in
      let h = first_home x.first f (λ z. omega arith) (λ z. omega arith) in
      let p : home_by s x.kind x.first ≡ (definition_of s x.first).first + 1 = rw (home_by, a, c) in
      let q : home_by u y.kind y.first ≡ (definition_of u y.first).first + 1 = rw (home_by, b, d2) in
      q ∙ ap (λ j. (definition_of u j).first + 1) g ∙ ap (λ j. j + 1) h ∙ one_more_lem e.modules (definition_of s x.first).first
      ∙ ap (or_none e.modules) (sym p))
      (λ c.
      let d2 : eqb y.kind variant_kind ≡ false = ap (λ i. eqb i variant_kind) k ∙ c in
      let h = first_home d l (eqb-false x.kind 2 c) (eqb-false x.kind 3 a) in
      let p : home_by s x.kind x.first ≡ x.first + 1 = rw (home_by, a, c) in
      let q : home_by u y.kind y.first ≡ y.first + 1 = rw (home_by, b, d2) in
      q ∙ ap (λ j. j + 1) h ∙ one_more_lem e.modules x.first ∙ ap (or_none e.modules) (sym p)))

  pub home_low : (a : Item) → Has s a → home_of s a ≤ length s.modules
  unfolding home_of home_by
  home_low (Mod m) h = omega arith
  home_low (Def ns i) l =
      let d = i.0 in
      let x = definition_of s d in
      by_test (eqb x.kind builtin_kind)
      (λ a. let p : home_by s x.kind x.first ≡ 0 = rw (home_by, a) in omega arith)
      (λ a.
      by_test (eqb x.kind variant_kind)
      (λ c.
      let o = eqb-true x.kind 2 c in
      let four = parent_four d l o in
      let f = (fits x.first ((fits d l).variant o).0).home (λ z. omega arith) (λ z. omega arith) in
      let p : home_by s x.kind x.first ≡ (definition_of s x.first).first + 1 = rw (home_by, a, c) in
      omega arith)
      (λ c.
      let f = (fits d l).home (eqb-false x.kind 2 c) (eqb-false x.kind 3 a) in
      let p : home_by s x.kind x.first ≡ x.first + 1 = rw (home_by, a, c) in
      omega arith))
