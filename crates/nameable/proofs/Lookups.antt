-- The entries of a module by name and by item: no name stands twice in a scope and namespace.
use Rattle.std.specs.Prelude.{option_map}
use Prim.Native.Nat.{ℕ, suc, ◌<◌}
use mathlib.Core.Path.{◌≡◌, refl, sym, ap, subst, ◌∙◌}
use mathlib.Core.List.{List, [], ◌∷◌, map, Memᴰ, map-map}
use mathlib.Core.Bool.{Bool, true, false, ◌&&◌, true≢false, and-true}
use Rattle.std.specs.Prelude.{Some}
use native.Mathlib.Omega.{arith}
use borrow.Author.Tests.{eqb-true, eq-eqb, ltb-true, ltb-false}
use lib.Dec.{eqb, ltb}
use lib.ListN.{length, get_or}
use Rattle.snapshot.specs.Records.{Snapshot, Scope}
use Rattle.check_rules.specs.Tests.{same_entry}
use Rattle.accept.specs.Valid.{Valid}
use Rattle.accept.proofs.Accepted.{by_test}
use Rattle.accept.proofs.Bools.{and_two}
use Rattle.hir_def.specs.Finds.{first_of, select}
use Rattle.hir_def.specs.Items.{types, item_of, same_item, ns_of, module_item}
use Rattle.hir_def.specs.ItemScope.{is_named, is_for, names_of}
use Rattle.hir_def.specs.declared.Item.{Item}
use Rattle.hir_def.proofs.Same.{same_item_lem, ns_of_item}
use Rattle.nameable.specs.Seen.{seen}
use Rattle.nameable.specs.Paths.{Path, into, Named, named, is_seen_in, as_named, entries_in, within, item_in, means}
use Rattle.nameable.specs.Breadth.{Way, is_item, first_to}
use Rattle.nameable.specs.Queue.{paths_after, seen_named}
use Rattle.nameable.proofs.Lists.{first_found_lem, first_some_lem}
use Rattle.nameable.proofs.Reached.{into_means, item_of_lem}

-- The first of what is made of the selected ones.
pub first_mapped : {A B : Type 0} (p : B → Bool) (f : A → B) (q : A → Bool) (xs : List A)
    → first_of p (map f (select q xs)) ≡ option_map f (first_of (λ x. q x && p (f x)) xs)
unfolding first_of select
first_mapped p f q [] = refl
first_mapped p f q (x ∷ xs) =
    by_test (q x)
    (λ t.
    by_test (p (f x))
    (λ u. rw (t, select, first_of, u))
    (λ u. rw (t, select, first_of, u) (first_mapped p f q xs)))
    (λ t. rw (t, select, first_of) (first_mapped p f q xs))

-- tests that agree on the list find the same
pub first_same : {A : Type 0} (p q : A → Bool) (xs : List A) → ((x : A) → Memᴰ x xs → p x ≡ q x) → first_of p xs ≡ first_of q xs
unfolding first_of
first_same p q [] h = refl
first_same p q (x ∷ xs) h =
    let ih = first_same p q xs (λ y m. h y (Memᴰ.tail m)) in
    by_test (q x)
    (λ t. rw (h x (Memᴰ.head refl), t, first_of))
    (λ t. rw (h x (Memᴰ.head refl), t, first_of) ih)

-- where an element stands
pub place_in : {A : Type 0} (d : A) {x : A} {xs : List A} → Memᴰ x xs → (i : ℕ) × (i < length xs) × (get_or xs i d ≡ x)
place_in d (Memᴰ.head e) = (0, omega arith, sym e)
place_in d (Memᴰ.tail m) = let f = place_in d m in (suc f.0, omega (arith, f.1), f.2)

name_last : (o k v t : Bool) → (o && (k && v)) && t ≡ (o && (k && t)) && v
name_last true true true true = refl
name_last true true true false = refl
name_last true true false true = refl
name_last true true false false = refl
name_last true false v t = refl
name_last false k v t = refl

module _ (s : Snapshot) (from ns m : ℕ) where
  -- a name means the seen entry that has it
  pub named_seen : (n : ℕ) → named n (entries_in s from ns m) ≡ option_map (as_named s) (seen_named s from ns m n)
  unfolding named entries_in seen_named
  named_seen n =
      first_mapped (λ (x : Named). eqb x.name n) (as_named s) (is_seen_in s from ns m) s.scopes
      ∙ ap (option_map (as_named s))
      (first_same (λ (e : Scope). is_seen_in s from ns m e && eqb e.name n) (λ (e : Scope). is_named m ns n e && seen s from e) s.scopes
      (λ e i. name_last (eqb e.owner m) (eqb e.ns ns) (seen s from e) (eqb e.name n)))

  -- two entries of one scope, namespace and name are one
  pub entry_one : Valid s → (n : ℕ) (x y : Scope) → Memᴰ x s.scopes → Memᴰ y s.scopes → is_named m ns n x ≡ true
      → is_named m ns n y ≡ true → x ≡ y
  entry_one ok n x y i j h k =
      let d : Scope = record { owner = 0; ns = 0; name = 0; definition = 0; visibility = 0; number = 0; declared = 0; bits = 0; place = 0 } in
      let a = place_in d i in
      let b = place_in d j in
      by_test (ltb a.0 b.0)
      (λ t. absurd (apart x y h k (subst (λ z. same_entry y z ≡ false) a.2
      (subst (λ z. same_entry z (get_or s.scopes a.0 d) ≡ false) b.2 (ok.once.scopes a.0 b.0 (ltb-true a.0 b.0 t) b.1)))))
      (λ t.
      by_test (ltb b.0 a.0)
      (λ u. absurd (apart y x k h (subst (λ z. same_entry x z ≡ false) b.2
      (subst (λ z. same_entry z (get_or s.scopes b.0 d) ≡ false) a.2 (ok.once.scopes b.0 a.0 (ltb-true b.0 a.0 u) a.1)))))
      (λ u.
      let same : a.0 ≡ b.0 = omega (arith, ltb-false a.0 b.0 t, ltb-false b.0 a.0 u) in
      sym a.2 ∙ (ap (λ (z : ℕ). get_or s.scopes z d) same ∙ b.2)))
    where
      fields : (z : Scope) → is_named m ns n z ≡ true → (z.owner ≡ m) × (z.ns ≡ ns) × (z.name ≡ n)
      fields z e =
          let f = and_two (eqb z.owner m) (eqb z.ns ns && eqb z.name n) e in
          let g = and_two (eqb z.ns ns) (eqb z.name n) f.1 in
          (eqb-true z.owner m f.0, eqb-true z.ns ns g.0, eqb-true z.name n g.1)

      apart : (x y : Scope) → is_named m ns n x ≡ true → is_named m ns n y ≡ true → same_entry y x ≡ false → ⊥
      apart x y h k e =
          let f = fields x h in
          let g = fields y k in
          true≢false (sym (rw (
            eq-eqb y.owner x.owner (g.0 ∙ sym f.0),
            eq-eqb y.ns x.ns (g.1 ∙ sym f.1),
            eq-eqb
                y.name x.name (g.2 ∙ sym f.2),
          )) ∙ e)

  -- a seen entry is what its name means
  pub seen_named_lem : Valid s → (e : Scope) → Memᴰ e s.scopes → is_seen_in s from ns m e ≡ true
      → named e.name (entries_in s from ns m) ≡ Some (as_named s e)
  unfolding seen_named
  seen_named_lem ok e i h =
      let f = and_two (eqb e.owner m) (eqb e.ns ns && seen s from e) h in
      let g = and_two (eqb e.ns ns) (seen s from e) f.1 in
      let here : is_named m ns e.name e ≡ true = rw (f.0, g.0) (eq-eqb e.name e.name refl) in
      let both : is_named m ns e.name e && seen s from e ≡ true = rw (here) g.1 in
      let x = first_some_lem (λ (z : Scope). is_named m ns e.name z && seen s from z) i both in
      let y = first_found_lem (λ (z : Scope). is_named m ns e.name z && seen s from z) s.scopes x.0 x.1 in
      let same : x.0 ≡ e = entry_one ok e.name x.0 e y.0 i (and_two (is_named m ns e.name x.0) (seen s from x.0) y.1).0 here in
      let is : seen_named s from ns m e.name ≡ Some e = x.1 ∙ ap Some same in
      named_seen e.name ∙ ap (option_map (as_named s)) is

  pub seen_means : Valid s → (e : Scope) → Memᴰ e s.scopes → is_seen_in s from ns m e ≡ true
      → item_in (named e.name (entries_in s from ns m)) ≡ Some (item_of s e.ns e.definition)
  seen_means ok e i h = item_of_lem (named e.name (entries_in s from ns m)) (as_named s e) (seen_named_lem ok e i h)

module _ (s : Snapshot) (ok : Valid s) (from : ℕ) (item : Item) (w : Way) (there : means s from types w.path ≡ Some (module_item w.target)) where
  -- one name more after a way, by a seen entry
  pub after_means : (ns : ℕ) (e : Scope) → Memᴰ e s.scopes → is_seen_in s from ns w.target e ≡ true
      → means s from ns (into w.path e.name) ≡ Some (item_of s e.ns e.definition)
  unfolding within
  after_means ns e i h = into_means s from ns e.name w.path (module_item w.target) there ∙ seen_means s from ns w.target ok e i h

  -- an entry offered for the item, and one of the module's that is seen
  alike : (e : Scope) → Memᴰ e s.scopes
      → (is_seen_in s from (ns_of item) w.target e && is_item item (means s from (ns_of item) (into w.path e.name)))
      ≡ (is_for s w.target item e && seen s from e)
  unfolding is_for is_item
  alike e i =
      by_test (is_seen_in s from (ns_of item) w.target e)
      (λ t.
      let f = and_two (eqb e.owner w.target) (eqb e.ns (ns_of item) && seen s from e) t in
      let g = and_two (eqb e.ns (ns_of item)) (seen s from e) f.1 in
      rw (t, after_means (ns_of item) e i t, f.0, g.1) (sym (and-true (same_item (item_of s e.ns e.definition) item))))
      (λ t. rw t (sym (none_for e t)))
    where
      none_for : (e : Scope) → is_seen_in s from (ns_of item) w.target e ≡ false
          → (eqb e.owner w.target && same_item (item_of s e.ns e.definition) item) && seen s from e ≡ false
      none_for e t =
          by_test ((eqb e.owner w.target && same_item (item_of s e.ns e.definition) item) && seen s from e)
          (λ u.
          let f = and_two (eqb e.owner w.target && same_item (item_of s e.ns e.definition) item) (seen s from e) u in
          let g = and_two (eqb e.owner w.target) (same_item (item_of s e.ns e.definition) item) f.0 in
          let same : item_of s e.ns e.definition ≡ item = same_item_lem (item_of s e.ns e.definition) item g.1 in
          let ns : e.ns ≡ ns_of item = sym (ns_of_item s e.ns e.definition) ∙ ap ns_of same in
          let yes : is_seen_in s from (ns_of item) w.target e ≡ true = rw (g.0, eq-eqb e.ns (ns_of item) ns) f.1 in
          absurd (true≢false (sym yes ∙ t)))
          (λ u. u)

  -- The first path to the item with one name more is by the module's first seen entry for it.
  pub after_first : first_to s from item (paths_after s from (ns_of item) w) ≡ option_map (λ e. into w.path e.name)
      (names_of s w.target item (seen s from))
  unfolding first_to entries_in names_of
  after_first =
      ap (first_of (λ (p : Path). is_item item (means s from (ns_of item) p)))
      (map-map (λ (x : Named). into w.path x.name) (as_named s) (select (is_seen_in s from (ns_of item) w.target) s.scopes))
      ∙ (first_mapped (λ (p : Path). is_item item (means s from (ns_of item) p)) (λ (e : Scope). into w.path e.name)
      (is_seen_in s from (ns_of item) w.target) s.scopes
      ∙ ap (option_map (λ (e : Scope). into w.path e.name))
      (first_same (λ (e : Scope). is_seen_in s from (ns_of item) w.target e && is_item item (means s from (ns_of item) (into w.path e.name)))
      (λ (e : Scope). is_for s w.target item e && seen s from e) s.scopes alike))
