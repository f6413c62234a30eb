-- The import maps of a snapshot whose imports of one crate were replaced; what is collected is the same for it.
use Prim.Native.Nat.{ℕ, zero, suc, ◌+◌, ◌*◌}
use mathlib.Core.Path.{◌≡◌, refl, sym, ◌∙◌, ap, ap₂}
use mathlib.Core.List.{List, [], ◌∷◌, ◌++◌, append-nil}
use mathlib.Core.Bool.{Bool, true, false, ◌&&◌, not}
use native.Mathlib.Omega.{arith}
use borrow.Author.Tests.{eqb-true, eqb-false, eq-eqb, ne_eqb}
use lib.Dec.{eqb}
use lib.ListN.{length}
use Rattle.snapshot.specs.Lists.{any}
use Rattle.snapshot.specs.Sizes.{import_size}
use Rattle.snapshot.specs.Records.{Snapshot, Scope, Import, Extern}
use Rattle.accept.specs.Valid.{Each, none, more}
use Rattle.accept.proofs.Accepted.{by_test}
use Rattle.hir_def.specs.Finds.{select}
use Rattle.hir_def.specs.Items.{item_of, definition_of, root_of, own_map}
use Rattle.hir_def.specs.ImportMap.{is_import, import_info_for}
use Rattle.hir_def.specs.declared.Item.{Item}
use Rattle.find_path_choice.specs.Choices.{name_data}
use Rattle.find_path_spec.specs.Line.{text_of}
use Rattle.edit_rules.specs.Entries.{moved_import, with_lists, scopes_end}
use Rattle.import_rules.specs.Collect.{entry_before, entries_of, piled, visits, modules_from, imports_of, imports_in, imports_over, collected}
use Rattle.import_rules.specs.import_words.Words.{placed_from, is_others, others_than, replaced, snapshot_with, is_of, unplaced}
use Rattle.import_rules.proofs.import_words.Fitting.{Owned}

-- lists

select_yes : {A : Type 0} (p : A → Bool) (x : A) (xs : List A) → p x ≡ true → select p (x ∷ xs) ≡ x ∷ select p xs
unfolding select
select_yes p x xs h = rw (h, select)

select_no : {A : Type 0} (p : A → Bool) (x : A) (xs : List A) → p x ≡ false → select p (x ∷ xs) ≡ select p xs
unfolding select
select_no p x xs h = rw (h, select)

pub select_append : {A : Type 0} (p : A → Bool) (xs ys : List A) → select p (xs ++ ys) ≡ select p xs ++ select p ys
unfolding select
select_append p [] ys = refl
select_append p (x ∷ xs) ys =
    by_test (p x)
    (λ t. rw (t, select) (ap (λ l. x ∷ l) (select_append p xs ys)))
    (λ t. rw (t, select) (select_append p xs ys))

pub placed_append : (a : ℕ) (xs ys : List Import) → placed_from a (xs ++ ys) ≡ placed_from a xs ++ placed_from (a + import_size * length xs) ys
unfolding placed_from
placed_append a [] ys = let e : a ≡ a + import_size * 0 = omega arith in ap (λ b. placed_from b ys) e
placed_append a (x ∷ xs) ys =
    let e : a + import_size + import_size * length xs ≡ a + import_size * suc (length xs) = omega arith in
    ap (λ l. moved_import (λ n. a) x ∷ l) (placed_append (a + import_size) xs ys ∙ ap (λ b. placed_from (a + import_size) xs ++ placed_from b ys) e)

-- the imports of a crate among its own, and among those of others
module _ (t : Import → Bool) (c : ℕ) where
  owned_all : (a : ℕ) {xs : List Import} → Each (Owned c) xs → select (λ x. eqb x.owner c && t x) (placed_from a xs) ≡ select t (placed_from a xs)
  unfolding select placed_from
  owned_all a none = refl
  owned_all a (more {x = x} {xs = xs} o os) =
      let e = eq-eqb x.owner c o in
      let y = moved_import (λ n. a) x in
      by_test (t y)
      (λ h. rw (e, h, select) (ap (λ l. y ∷ l) (owned_all (a + import_size) os)))
      (λ h. rw (e, h, select) (owned_all (a + import_size) os))

  others_none : (a : ℕ) (xs : List Import) → select (λ x. eqb x.owner c && t x) (placed_from a (others_than c xs)) ≡ []
  unfolding select placed_from others_than
  others_none a [] = refl
  others_none a (x ∷ xs) =
      let P : Import → Bool = λ x. eqb x.owner c && t x in
      by_test (eqb x.owner c)
      (λ h. ap (λ l. select P (placed_from a l)) (select_no (is_others c) x xs (ap not h)) ∙ others_none a xs)
      (λ h. let y = moved_import (λ n. a) x in
      ap (λ l. select P (placed_from a l)) (select_yes (is_others c) x xs (ap not h))
      ∙ select_no P y (placed_from (a + import_size) (others_than c xs)) (ap (λ b. b && t y) h) ∙ others_none (a + import_size) xs)

  -- imports of another crate d

  module _ (d : ℕ) (apart : eqb d c ≡ false) where
    abbrev Its : Import → Bool
    Its x = eqb x.owner d && t x

    differs : (a : ℕ) → a ≡ c → eqb a d ≡ false
    differs a e = let n = eqb-false d c apart in ne_eqb a d (λ z. omega arith)

    not_owned : {xs : List Import} → Each (Owned c) xs → select Its xs ≡ []
    unfolding select
    not_owned none = refl
    not_owned (more {x = x} {xs = xs} o os) = select_no Its x xs (ap (λ b. b && t x) (differs x.owner o)) ∙ not_owned os

    others_all : (xs : List Import) → select Its (others_than c xs) ≡ select Its xs
    unfolding select others_than
    others_all [] = refl
    others_all (x ∷ xs) =
        by_test (eqb x.owner c)
        (λ h. ap (select Its) (select_no (is_others c) x xs (ap not h)) ∙ others_all xs
        ∙ sym (select_no Its x xs (ap (λ b. b && t x) (differs x.owner (eqb-true x.owner c h)))))
        (λ h. ap (select Its) (select_yes (is_others c) x xs (ap not h))
        ∙ by_test (Its x)
        (λ k. select_yes Its x (others_than c xs) k ∙ ap (λ l. x ∷ l) (others_all xs) ∙ sym (select_yes Its x xs k))
        (λ k. select_no Its x (others_than c xs) k ∙ others_all xs ∙ sym (select_no Its x xs k)))

unplaced_all : (t : Import → Bool) → ((a : ℕ) (x : Import) → t (moved_import (λ n. a) x) ≡ t x) → (a : ℕ) (xs : List Import)
    → unplaced (select t (placed_from a xs)) ≡ unplaced (select t xs)
unfolding select placed_from
unplaced_all t same a [] = refl
unplaced_all t same a (x ∷ xs) =
    let y = moved_import (λ n. a) x in
    by_test (t x)
    (λ h. ap unplaced (select_yes t y (placed_from (a + import_size) xs) (same a x ∙ h))
    ∙ ap (λ l. moved_import (λ n. 0) x ∷ l) (unplaced_all t same (a + import_size) xs) ∙ sym (ap unplaced (select_yes t x xs h)))
    (λ h. ap unplaced (select_no t y (placed_from (a + import_size) xs) (same a x ∙ h))
    ∙ unplaced_all t same (a + import_size) xs ∙ sym (ap unplaced (select_no t x xs h)))

module _ (W : List ℕ) (s : Snapshot) (c : ℕ) (xs : List Import) (own : Each (Owned c) xs) (item : Item) where
  -- of the crate: those of the new list
  pub own_infos : import_info_for (snapshot_with W s (replaced s c xs)) c item
      ≡ select (is_of s item) (placed_from (scopes_end W + import_size * length (others_than c s.imports)) xs)
  unfolding import_info_for snapshot_with item_of definition_of
  own_infos =
      let P = is_import s c item in
      let os = others_than c s.imports in
      let p = scopes_end W in
      ap (select P) (placed_append p os xs)
      ∙ select_append P (placed_from p os) (placed_from (p + import_size * length os) xs)
      ∙ ap (λ l. l ++ select P (placed_from (p + import_size * length os) xs)) (others_none (is_of s item) c p s.imports)
      ∙ owned_all (is_of s item) c (p + import_size * length os) own

  -- of another crate: as before, but for places
  pub other_infos : (d : ℕ) → eqb d c ≡ false
      → unplaced (import_info_for (snapshot_with W s (replaced s c xs)) d item) ≡ unplaced (import_info_for s d item)
  unfolding import_info_for snapshot_with item_of definition_of
  other_infos d apart =
      let P = is_import s d item in
      let os = others_than c s.imports in
      unplaced_all P (λ a x. refl) (scopes_end W) (os ++ xs)
      ∙ ap unplaced (select_append P os xs)
      ∙ ap (λ l. unplaced (select P os ++ l)) (not_owned (is_of s item) c d apart own)
      ∙ ap unplaced (append-nil (select P os))
      ∙ ap unplaced (others_all (is_of s item) c d apart s.imports)

-- what is collected does not go by imports, nor by externs
module _ (s : Snapshot) (is : List Import) (es : List Extern) where
  abbrev Other : Snapshot
  Other = with_lists s s.scopes is es

  entries_same : (m : ℕ) → entries_of Other m ≡ entries_of s m
  unfolding entries_of entry_before text_of name_data
  entries_same m = refl

  piled_same : (xs : List Scope) (ws : List ℕ) → piled Other xs ws ≡ piled s xs ws
  unfolding piled definition_of
  piled_same [] ws = refl
  piled_same (x ∷ xs) ws = piled_same xs _

  visits_same : (n : ℕ) (seen ws : List ℕ) → visits n Other seen ws ≡ visits n s seen ws
  unfolding visits
  visits_same zero seen ws = refl
  visits_same (suc n) seen [] = refl
  visits_same (suc n) seen (m ∷ ws) =
      by_test (any (eqb m) seen)
      (λ t. rw (t, visits) (visits_same n seen ws))
      (λ t. rw (t, visits) (ap (λ l. m ∷ l)
      (ap (visits n Other (m ∷ seen)) (ap (λ l. piled Other l ws) (entries_same m) ∙ piled_same (entries_of s m) ws)
      ∙ visits_same n (m ∷ seen) (piled s (entries_of s m) ws))))

  in_same : (c : ℕ) (xs : List Scope) → imports_in Other c xs ≡ imports_in s c xs
  unfolding imports_in imports_of
  in_same c [] = refl
  in_same c (x ∷ xs) = ap (λ l. imports_of s c x ++ l) (in_same c xs)

  over_same : (c : ℕ) (ms : List ℕ) → imports_over Other c ms ≡ imports_over s c ms
  unfolding imports_over
  over_same c [] = refl
  over_same c (m ∷ ms) = ap₂ (λ a b. a ++ b) (ap (imports_in Other c) (entries_same m) ∙ in_same c (entries_of s m)) (over_same c ms)

  collected_lists : (c : ℕ) → collected Other c ≡ collected s c
  unfolding collected modules_from root_of own_map
  collected_lists c = over_same c _ ∙ ap (imports_over s c) (visits_same (length s.scopes + 1) [] (root_of s (own_map s c) ∷ []))

pub collected_same : (W : List ℕ) (s : Snapshot) (ys : List Import) (c : ℕ) → collected (snapshot_with W s ys) c ≡ collected s c
unfolding snapshot_with
collected_same W s ys c = collected_lists s _ _ c
