-- Both parts of a join are embedded in it.
use Prim.Native.Nat.{ℕ, zero, suc, ◌+◌, ◌*◌, ◌≤◌, ◌<◌}
use mathlib.Core.Path.{◌≡◌, refl, sym, ◌∙◌, ap, ap₂}
use mathlib.Core.List.{List, [], ◌∷◌, ◌++◌, map}
use mathlib.Core.Bool.{Bool, true, false, ◌&&◌}
use native.Mathlib.Omega.{arith}
use native.Mathlib.Nat.{add-zero}
use borrow.Author.Tests.{eqb-true, eqb-false, eq-eqb, ne_eqb, ltb-true, ltb-false}
use lib.Dec.{eqb, ltb}
use lib.ListN.{length, get_or, take, get_or-append}
use lib.Seq.{get_or-append-add}
use Rattle.snapshot.specs.Lists.{any}
use Rattle.snapshot.specs.Sizes.{definition_size, scope_size, import_size, extern_size}
use Rattle.snapshot.specs.Records.{Snapshot, Member, Map, Module, Definition, Scope}
use Rattle.check_rules.specs.Tests.{counts_of, no_name, no_map, no_module, no_definition, same_name}
use Rattle.accept.specs.Valid.{Valid, Each, none, more, MemberFits, Belongs, map_in, crate_in, block_in, definition_in}
use Rattle.accept.proofs.Accepted.{by_test}
use Rattle.accept.proofs.Bools.{and_three, each_at, or_right, or_none_lem}
use Rattle.hir_def.specs.Finds.{place_of, select}
use Rattle.hir_def.specs.Items.{definition_of, crate_data, module_of, map_of, root_of, own_map}
use Rattle.edit_rules.specs.Entries.{moved_scope, moved_import, moved_extern}
use Rattle.join_rules.specs.Joined.{Numbers, first_numbers, second_numbers, name_number, same_builtin, definition_number, or_none, first_to}
use Rattle.join_rules.specs.Joined.{second_to}
use Rattle.join_rules.specs.Joined.{dependency_to, map_to, module_to, child_to, prelude_to, definition_to, scope_to, import_to, extern_to, member_to}
use Rattle.join_rules.specs.Joined.{definition_put, placed_by, placed, kind_base, together, joined, merged_number}
use Rattle.join_rules.proofs.Lists.{any_not, any_has, placed_at}
use Rattle.join_rules.proofs.Merged.{kept_less, number_old, merged_low}
use Rattle.join_rules.proofs.Stages.{Whole}
use Rattle.edit_rules.proofs.scope_edits.Lists.{each_both}
use Rattle.join_rules.proofs.Sound.{name_at_lem, name_apart, is_other, other_kind, definition_counts, definition_low, definition_at_lem}
use Rattle.join_rules.proofs.Sound.{module_counts}
use Rattle.join_rules.proofs.Sound.{module_low, module_high, map_low, map_high}
use Rattle.embedding.proofs.Chains.{none_same}
use Rattle.embedding.proofs.joined_lines.Sizes.{shifted}
use Rattle.embedding.specs.Embeds.{Within, done, ours, theirs, Embeds}

-- the first element that passes

module _ {A : Type 0} where
  place_left : (p : A → Bool) (k : ℕ) (xs ys : List A) → any p xs ≡ true → place_of p k (xs ++ ys) ≡ place_of p k xs
  unfolding place_of any
  place_left p k [] ys e = let z : ◌≡◌ {A = ℕ} 0 1 = cc in absurd (omega arith)
  place_left p k (x ∷ xs) ys e =
      by_test (p x)
      (λ a. rw (place_of, a))
      (λ a. rw (place_of, a) (place_left p (k + 1) xs ys (or_right (p x) (any p xs) e a)))

  place_right : (p : A → Bool) (k : ℕ) (xs ys : List A) → any p xs ≡ false → place_of p k (xs ++ ys) ≡ place_of p (k + length xs) ys
  unfolding place_of any
  place_right p k [] ys e = ap (λ j. place_of p j ys) (sym (add-zero k))
  place_right p k (x ∷ xs) ys e =
      let o = or_none_lem (p x) (any p xs) e in
      let a = o.0 in
      let q : k + 1 + length xs ≡ k + suc (length xs) = omega arith in
      rw (place_of, a) (place_right p (k + 1) xs ys o.1 ∙ ap (λ j. place_of p j ys) q)

  place_shift : (p : A → Bool) (a k : ℕ) (ys : List A) → place_of p (a + k) ys ≡ a + place_of p k ys
  unfolding place_of
  place_shift p a k [] = refl
  place_shift p a k (y ∷ ys) =
      let q : a + k + 1 ≡ a + (k + 1) = omega arith in
      by_test (p y) (λ t. rw (place_of, t)) (λ t. rw (place_of, t) (ap (λ j. place_of p j ys) q ∙ place_shift p a (k + 1) ys))

  place_map : (p q : A → Bool) (f : A → A) (k : ℕ) (ys : List A) → ((y : A) → p (f y) ≡ q y) → place_of p k (map f ys) ≡ place_of q k ys
  unfolding place_of
  place_map p q f k [] h = refl
  place_map p q f k (y ∷ ys) h =
      by_test (q y)
      (λ t. let a = h y ∙ t in rw (place_of, a, t))
      (λ t. let a = h y ∙ t in rw (place_of, a, t) (place_map p q f (k + 1) ys h))

-- lists of both parts, each record at its place

module _ {A : Type 0} {Alike : A → A → Type 0} {Others : A → Type 0} (put : ℕ → A → A) (size : ℕ) (f : A → A) where
  all_theirs : {P : A → Type 0} (at : ℕ) (g : A → A) → ((j : ℕ) (y : A) → P y → Others (put j (g y))) → (ys : List A) → Each P ys
      → Within Alike Others [] (placed_by put size at (map g ys))
  unfolding placed_by
  all_theirs at g h [] none = done
  all_theirs at g h (y ∷ ys) (more p ps) = theirs (h at y p) (all_theirs (at + size) g h ys ps)

  pub within_left : {P : A → Type 0} (at : ℕ) → ((j : ℕ) (x : A) → Alike x (put j x)) → ((j : ℕ) (y : A) → P y → Others (put j (f y)))
      → (xs ys : List A) → Each P ys → Within Alike Others xs (placed_by put size at (xs ++ map f ys))
  unfolding placed_by
  within_left at a h [] ys ps = all_theirs at f h ys ps
  within_left at a h (x ∷ xs) ys ps = ours (a at x) (within_left (at + size) a h xs ys ps)

  all_ours : (at : ℕ) → ((j : ℕ) (y : A) → Alike y (put j (f y))) → (ys : List A) → Within Alike Others ys (placed_by put size at (map f ys))
  unfolding placed_by
  all_ours at a [] = done
  all_ours at a (y ∷ ys) = ours (a at y) (all_ours (at + size) a ys)

  pub within_right : {P : A → Type 0} (at : ℕ) → ((j : ℕ) (x : A) → P x → Others (put j x)) → ((j : ℕ) (y : A) → Alike y (put j (f y)))
      → (xs ys : List A) → Each P xs → Within Alike Others ys (placed_by put size at (xs ++ map f ys))
  unfolding placed_by
  within_right at h a [] ys none = all_ours at a ys
  within_right at h a (x ∷ xs) ys (more p ps) = theirs (h at x p) (within_right (at + size) h a xs ys ps)

members_fit : (s : Snapshot) → Valid s → Each (λ x. MemberFits (counts_of s) x × Belongs s.definitions x) s.members
members_fit s v = each_both v.ranges.members v.members

-- lists of records that know no place
module _ {A : Type 0} {Alike : A → A → Type 0} {Others : A → Type 0} (f : A → A) where
  plain_theirs : {P : A → Type 0} → ((y : A) → P y → Others (f y)) → (ys : List A) → Each P ys → Within Alike Others [] (map f ys)
  plain_theirs h [] none = done
  plain_theirs h (y ∷ ys) (more p ps) = theirs (h y p) (plain_theirs h ys ps)

  plain_left : {P : A → Type 0} → ((x : A) → Alike x x) → ((y : A) → P y → Others (f y)) → (xs ys : List A) → Each P ys
      → Within Alike Others xs (xs ++ map f ys)
  plain_left a h [] ys ps = plain_theirs h ys ps
  plain_left a h (x ∷ xs) ys ps = ours (a x) (plain_left a h xs ys ps)

  plain_ours : ((y : A) → Alike y (f y)) → (ys : List A) → Within Alike Others ys (map f ys)
  plain_ours a [] = done
  plain_ours a (y ∷ ys) = ours (a y) (plain_ours a ys)

  plain_right : {P : A → Type 0} → ((x : A) → P x → Others x) → ((y : A) → Alike y (f y)) → (xs ys : List A) → Each P xs
      → Within Alike Others ys (xs ++ map f ys)
  plain_right h a [] ys none = plain_ours a ys
  plain_right h a (x ∷ xs) ys (more p ps) = theirs (h x p) (plain_right h a xs ys ps)

-- the first part's numbers stay

stays : (n : ℕ) → or_none (λ m. m) n ≡ n
stays zero = refl
stays (suc n) = refl

map_stays : (x : Map) → map_to first_numbers x ≡ x
map_stays x = let b = stays x.block in λ i. record { crate = x.crate; block = b i; no_std = x.no_std }

module_stays : (x : Module) → module_to first_numbers x ≡ x
module_stays x = let b = stays x.parent in λ i. record { map = x.map; parent = b i }

pick_same : (a b : Bool) (n : ℕ) → elim a [ true ↦ n | false ↦ elim b [ true ↦ n | false ↦ n ] ] ≡ n
pick_same true b n = refl
pick_same false true n = refl
pick_same false false n = refl

pick_one : (a : Bool) (n : ℕ) → elim a [ true ↦ n | false ↦ n ] ≡ n
pick_one true n = refl
pick_one false n = refl

definition_stays : (x : Definition) → definition_to first_numbers x ≡ x
definition_stays x =
    let a = pick_same (eqb x.kind 2) (eqb x.kind 3) x.first in
    let b = pick_one (eqb x.kind 2) x.second in
    λ i. record { kind = x.kind; first = a i; second = b i; place = x.place }

scope_stays : (x : Scope) → scope_to first_numbers x ≡ x
scope_stays x =
    let a = pick_same (eqb x.visibility 0) (eqb x.visibility 1) x.number in
    λ i. record {
      owner = x.owner;
      ns = x.ns;
      name = x.name;
      definition = x.definition;
      visibility = x.visibility;
      number = a i;
      declared = x.declared;
      bits = x.bits;
      place = x.place;
    }

-- a definition that was put to a place is at its place
put_there : (z y : Definition) (q : ℕ) → z ≡ definition_put q y → z ≡ definition_put z.place y
put_there z y q e = e ∙ ap (λ j. definition_put j y) (sym (ap (λ (x : Definition). x.place) e))

module _ (s t : Snapshot) (v : Valid s) (w : Valid t) (sw : Whole s) (tw : Whole t) where
  abbrev u : Snapshot
  u = joined s t

  abbrev e : Numbers
  e = second_numbers s t

  placed_definition : (d : ℕ) → d < length (together s t).definitions
      → definition_of u d ≡ definition_put (kind_base (together s t) 6 + definition_size * d) (definition_in (together s t).definitions d)
  unfolding definition_of placed
  placed_definition d l = placed_at definition_put definition_size no_definition (kind_base (together s t) 6) (together s t).definitions d l

  first_definition : (d : ℕ) → d < length s.definitions → definition_of u d ≡ definition_put (definition_of u d).place
      (definition_to first_numbers (definition_of s d))
  unfolding definition_of placed
  first_definition d l =
      let c = definition_counts s t v w sw tw in
      let q = placed_definition d (omega arith) ∙ ap (definition_put (kind_base (together s t) 6 + definition_size * d))
      (definition_low s t v w sw tw d l ∙ sym (definition_stays (definition_of s d))) in
      put_there (definition_of u d) (definition_to first_numbers (definition_of s d)) (kind_base (together s t) 6 + definition_size * d) q

  module_has : (k : ℕ) → k < length s.maps → any (λ (x : Module). eqb x.map k) s.modules ≡ true
  module_has k l =
      let f = v.filled k l in
      any_has (λ (x : Module). eqb x.map k) no_module s.modules f.0 f.1 (eq-eqb (map_in s.modules f.0) k f.2)

  map_has : (c : ℕ) → c < length s.crates → any (λ (x : Map). eqb x.crate c && eqb x.block 0) s.maps ≡ true
  map_has c l =
      let f = v.owned.some c l in
      any_has (λ (x : Map). eqb x.crate c && eqb x.block 0) no_map s.maps f.0 f.1
      (rw (eq-eqb (crate_in s.maps f.0) c f.2, eq-eqb (block_in s.maps f.0) 0 f.3))

  -- an enum of the second part is new
  member_new : (x : Member) → MemberFits (counts_of t) x → Belongs t.definitions x → length s.definitions ≤ definition_number s t x.parent
  member_new x f b =
      let k = b.parent in
      let d = (definition_at_lem s t v w sw tw x.parent f.parent (other_kind s t v w sw tw (definition_in t.definitions x.parent)
      (λ z. omega arith))).0 in
      omega arith

  -- The first part.
  pub first_embedded : Embeds first_numbers s u
  unfolding placed together crate_data map_of module_of root_of own_map
  first_embedded =
      record {
        names = λ n l. merged_low same_name no_name s.names t.names n l;
        crates = λ c l. get_or-append s.crates t.crates (record { origin = 0; no_std = 0; edition = 0 }) c l;
        maps = λ k l. map_low s t v w sw tw k l ∙ sym (map_stays (get_or s.maps k no_map));
        modules = λ m l. module_low s t v w sw tw m l ∙ sym (module_stays (get_or s.modules m no_module));
        definitions = first_definition;
        module_there = λ m l. let c = module_counts s t v w sw tw in omega arith;
        names_apart = λ i j a b q. q;
        crates_apart = λ i j a b q. q;
        maps_apart = λ i j a b q. q;
        modules_apart = λ i j a b q. q;
        definitions_apart = λ i j a b q. q;
        root = λ k l. place_left (λ (x : Module). eqb x.map k) 0 s.modules (map (module_to e) t.modules) (module_has k l);
        own = λ c l. place_left (λ (x : Map). eqb x.crate c && eqb x.block 0) 0 s.maps (map (map_to e) t.maps) (map_has c l);
        dependencies = plain_left (dependency_to e) (λ x. refl) (λ y p i l q. omega (arith, l, q)) s.dependencies t.dependencies
            w.ranges.dependencies;
        children = plain_left (child_to e) (λ x. refl) (λ y p i l q. omega (arith, l, q)) s.children t.children w.ranges.children;
        preludes = plain_left (prelude_to e) (λ x. refl) (λ y p i l q. omega (arith, l, q)) s.preludes t.preludes w.ranges.preludes;
        scopes =
            within_left (λ at. moved_scope (λ n. at)) scope_size (scope_to e) (kind_base (together s t) 7)
            (λ j x. ap (moved_scope (λ n. j)) (sym (scope_stays x))) (λ j y p i l q. omega (arith, l, q))
            s.scopes t.scopes w.ranges.scopes;
        imports =
            within_left (λ at. moved_import (λ n. at)) import_size (import_to e) (kind_base (together s t) 8) (λ j x. refl)
            (λ j y p i l q. omega (arith, l, q))
            s.imports t.imports w.ranges.imports;
        externs =
            within_left (λ at. moved_extern (λ n. at)) extern_size (extern_to e) (kind_base (together s t) 9) (λ j x. refl)
            (λ j y p i l q. omega (arith, l, q))
            s.externs t.externs w.ranges.externs;
        members =
            plain_left (member_to e) (λ x. refl) (λ y p i l q. let n = member_new y p.0 p.1 in omega (arith, l, q, n)) s.members t.members
            (members_fit t w);
      }

  -- the second part's definitions

  -- a builtin that was merged is the first part's
  merged_same : (d : ℕ) → d < length t.definitions → is_other s t v w sw tw (definition_in t.definitions d) ≡ false
      → (definition_number s t d < length s.definitions) × ((definition_in t.definitions d).kind ≡ 3)
      × ((definition_in s.definitions (definition_number s t d)).kind ≡ 3)
      × (name_number s t (definition_in t.definitions d).first ≡ (definition_in s.definitions (definition_number s t d)).first)
  unfolding definition_number
  merged_same d l a =
      let y = definition_in t.definitions d in
      let q = number_old (same_builtin s t) no_definition s.definitions t.definitions d a in
      let x = definition_in s.definitions (merged_number (same_builtin s t) no_definition s.definitions t.definitions d) in
      let k = and_three (eqb y.kind 3) (eqb x.kind 3) (eqb (name_number s t y.first) x.first) q.1 in
      (q.0, eqb-true y.kind 3 k.0, eqb-true x.kind 3 k.1, eqb-true (name_number s t y.first) x.first k.2)

  -- an enum of the first part is none of the second's
  member_old : (x : Member) → MemberFits (counts_of s) x → Belongs s.definitions x → (i : ℕ) → i < length t.definitions
      → definition_number s t i ≡ x.parent → ⊥
  member_old x f b i l q =
      let p = f.parent in
      by_test (is_other s t v w sw tw (definition_in t.definitions i))
      (λ a. let d = (definition_at_lem s t v w sw tw i l a).0 in omega arith)
      (λ a.
      let m = (merged_same i l a).2 in
      let k = b.parent in
      let z : (definition_in s.definitions (definition_number s t i)).kind ≡ (definition_in s.definitions x.parent).kind =
      ap (λ d. (definition_in s.definitions d).kind) q in
      omega arith)

  merged_alike : (d : ℕ) → d < length t.definitions → is_other s t v w sw tw (definition_in t.definitions d) ≡ false → (q : ℕ)
      → definition_put q (definition_in s.definitions (definition_number s t d)) ≡ definition_put q (definition_to e (definition_in t.definitions d))
  merged_alike d l a q =
      let y = definition_in t.definitions d in
      let m = merged_same d l a in
      let x = definition_in s.definitions (definition_number s t d) in
      let m1 = m.1 in
      let m2 = m.2 in
      let k : x.kind ≡ y.kind = m2 ∙ sym m1 in
      let c = ne_eqb y.kind 2 (λ z. omega arith) in
      let f : first_to e y ≡ name_number s t y.first = rw (first_to, c, eq-eqb y.kind 3 m1) in
      let g : second_to e y ≡ y.second = rw (second_to, c) in
      let xs = (each_at no_definition (definition_number s t d) sw.definitions m.0).second (λ z. omega arith) in
      let ys = (each_at no_definition d tw.definitions l).second (λ z. omega arith) in
      let h : x.first ≡ first_to e y = sym m.3 ∙ sym f in
      let n : x.second ≡ second_to e y = xs ∙ sym ys ∙ sym g in
      λ i. record { kind = k i; first = h i; second = n i; place = q }

  second_definition : (d : ℕ) → d < length t.definitions
      → definition_of u (definition_number s t d) ≡ definition_put (definition_of u (definition_number s t d)).place
      (definition_to e (definition_of t d))
  unfolding definition_of
  second_definition d l =
      let j = definition_number s t d in
      let at = kind_base (together s t) 6 + definition_size * j in
      let c = definition_counts s t v w sw tw in
      by_test (is_other s t v w sw tw (definition_in t.definitions d))
      (λ a.
      let g = definition_at_lem s t v w sw tw d l a in
      put_there (definition_of u j) (definition_to e (definition_of t d)) at (placed_definition j g.1 ∙ ap (definition_put at) g.2))
      (λ a.
      let m = (merged_same d l a).0 in
      put_there (definition_of u j) (definition_to e (definition_of t d)) at
      (placed_definition j (omega arith) ∙ ap (definition_put at) (definition_low s t v w sw tw j m) ∙ merged_alike d l a at))

  abbrev kept : ℕ → ℕ
  kept d = length (select (is_other s t v w sw tw) (take d t.definitions))

  new_apart : (i j : ℕ) → i < j → i < length t.definitions → j < length t.definitions
      → is_other s t v w sw tw (definition_in t.definitions i) ≡ true
      → is_other s t v w sw tw (definition_in t.definitions j) ≡ true → definition_number s t i ≡ definition_number s t j → ⊥
  new_apart i j h li lj a b q =
      let x = (definition_at_lem s t v w sw tw i li a).0 in
      let y = (definition_at_lem s t v w sw tw j lj b).0 in
      let k = kept_less (is_other s t v w sw tw) no_definition t.definitions i j h li a in
      omega arith

  old_apart : (i j : ℕ) → i < j → i < length t.definitions → j < length t.definitions
      → is_other s t v w sw tw (definition_in t.definitions i) ≡ false
      → is_other s t v w sw tw (definition_in t.definitions j) ≡ false → definition_number s t i ≡ definition_number s t j → ⊥
  old_apart i j h li lj a b q =
      let x = merged_same i li a in
      let y = merged_same j lj b in
      let f = (each_at no_definition i w.ranges.definitions li).builtin x.1 in
      let g = (each_at no_definition j w.ranges.definitions lj).builtin y.1 in
      let n = name_apart s t v w sw tw (definition_in t.definitions i).first (definition_in t.definitions j).first f g
      (x.3 ∙ ap (λ d. (definition_in s.definitions d).first) q ∙ sym y.3) in
      w.builtins i j h lj x.1 y.1 n

  mixed_apart : (i j : ℕ) → i < length t.definitions → j < length t.definitions → is_other s t v w sw tw (definition_in t.definitions i) ≡ true
      → is_other s t v w sw tw (definition_in t.definitions j) ≡ false → definition_number s t i ≡ definition_number s t j → ⊥
  mixed_apart i j li lj a b q = omega (arith, (definition_at_lem s t v w sw tw i li a).0, (merged_same j lj b).0)

  ordered_apart : (i j : ℕ) → i < j → i < length t.definitions → j < length t.definitions → definition_number s t i ≡ definition_number s t j → ⊥
  ordered_apart i j h li lj q =
      by_test (is_other s t v w sw tw (definition_in t.definitions i))
      (λ a. by_test (is_other s t v w sw tw (definition_in t.definitions j)) (λ b. new_apart i j h li lj a b q) (λ b. mixed_apart i j li lj a b q))
      (λ a. by_test (is_other s t v w sw tw (definition_in t.definitions j)) (λ b. mixed_apart j i lj li b a (sym q))
      (λ b. old_apart i j h li lj a b q))

  second_apart : (i j : ℕ) → i < length t.definitions → j < length t.definitions → definition_number s t i ≡ definition_number s t j → i ≡ j
  second_apart i j li lj q =
      by_test (eqb i j) (λ a. eqb-true i j a)
      (λ a.
      let n = eqb-false i j a in
      by_test (ltb i j) (λ b. absurd (ordered_apart i j (ltb-true i j b) li lj q))
      (λ b. let g = ltb-false i j b in absurd (ordered_apart j i (omega arith) lj li (sym q))))

  second_root : (k : ℕ) → k < length t.maps
      → place_of (λ (x : Module). eqb x.map (length s.maps + k)) 0 (s.modules ++ map (module_to e) t.modules)
      ≡ length s.modules + place_of (λ (x : Module). eqb x.map k) 0 t.modules
  second_root k l =
      let p : Module → Bool = λ x. eqb x.map (length s.maps + k) in
      let no : any p s.modules ≡ false =
      any_not p no_module s.modules (λ j h. let m = v.tree.known j h in ne_eqb (map_in s.modules j) (length s.maps + k)
      (λ z. omega arith)) in
      let q : 0 + length s.modules ≡ length s.modules + 0 = omega arith in
      place_right p 0 s.modules (map (module_to e) t.modules) no
      ∙ ap (λ j. place_of p j (map (module_to e) t.modules)) q
      ∙ place_shift p (length s.modules) 0 (map (module_to e) t.modules)
      ∙ ap (λ j. length s.modules + j) (place_map p (λ (x : Module). eqb x.map k) (module_to e) 0 t.modules
      (λ y. shifted (length s.maps) y.map k))

  second_own : (c : ℕ) → c < length t.crates
      → place_of (λ (x : Map). eqb x.crate (length s.crates + c) && eqb x.block 0) 0 (s.maps ++ map (map_to e) t.maps)
      ≡ length s.maps + place_of (λ (x : Map). eqb x.crate c && eqb x.block 0) 0 t.maps
  second_own c l =
      let p : Map → Bool = λ x. eqb x.crate (length s.crates + c) && eqb x.block 0 in
      let no : any p s.maps ≡ false =
      any_not p no_map s.maps
      (λ j h.
      let m = (each_at no_map j v.ranges.maps h).crate in
      let z = ne_eqb (crate_in s.maps j) (length s.crates + c) (λ z. omega arith) in
      ap (λ b. b && eqb (block_in s.maps j) 0) z) in
      let q : 0 + length s.maps ≡ length s.maps + 0 = omega arith in
      place_right p 0 s.maps (map (map_to e) t.maps) no
      ∙ ap (λ j. place_of p j (map (map_to e) t.maps)) q
      ∙ place_shift p (length s.maps) 0 (map (map_to e) t.maps)
      ∙ ap (λ j. length s.maps + j)
      (place_map p (λ (x : Map). eqb x.crate c && eqb x.block 0) (map_to e) 0 t.maps
      (λ y. ap₂ (λ a b. a && b) (shifted (length s.crates) y.crate c) (none_same e.modules y.block)))

  -- The second part.
  pub second_embedded : Embeds (second_numbers s t) t u
  unfolding placed together crate_data map_of module_of root_of own_map
  second_embedded =
      record {
        names = λ n l. (name_at_lem s t v w sw tw n l).1;
        crates = λ c l. get_or-append-add s.crates t.crates c (record { origin = 0; no_std = 0; edition = 0 });
        maps = λ k l. map_high s t v w sw tw k l;
        modules = λ m l. module_high s t v w sw tw m l;
        definitions = second_definition;
        module_there = λ m l. let c = module_counts s t v w sw tw in omega arith;
        names_apart = name_apart s t v w sw tw;
        crates_apart = λ i j a b q. omega arith;
        maps_apart = λ i j a b q. omega arith;
        modules_apart = λ i j a b q. omega arith;
        definitions_apart = second_apart;
        root = second_root;
        own = second_own;
        dependencies = plain_right (dependency_to e) (λ x p i l q. let o = p.owner in omega arith) (λ y. refl) s.dependencies
            t.dependencies v.ranges.dependencies;
        children = plain_right (child_to e) (λ x p i l q. let o = p.owner in omega arith) (λ y. refl) s.children t.children
            v.ranges.children;
        preludes = plain_right (prelude_to e) (λ x p i l q. let o = p.map in omega arith) (λ y. refl) s.preludes t.preludes
            v.ranges.preludes;
        scopes =
            within_right (λ at. moved_scope (λ n. at)) scope_size (scope_to e) (kind_base (together s t) 7)
            (λ j x p i l q. let o = p.owner in omega arith) (λ j y. refl)
            s.scopes t.scopes v.ranges.scopes;
        imports =
            within_right (λ at. moved_import (λ n. at)) import_size (import_to e) (kind_base (together s t) 8)
            (λ j x p i l q. let o = p.owner in omega arith) (λ j y. refl)
            s.imports t.imports v.ranges.imports;
        externs =
            within_right (λ at. moved_extern (λ n. at)) extern_size (extern_to e) (kind_base (together s t) 9)
            (λ j x p i l q. let o = p.owner in omega arith) (λ j y. refl)
            s.externs t.externs v.ranges.externs;
        members =
            plain_right (member_to e) (λ x p i l q. member_old x p.0 p.1 i l q) (λ y. refl) s.members t.members (members_fit s v);
      }
