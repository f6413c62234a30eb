-- Sorting by parts: two sorted parts merged are the whole sorted; the elements of a sort that pass a test are the sort of those that pass.
use mathlib.Core.Path.{◌≡◌, refl, sym, ◌∙◌, ap}
use mathlib.Core.List.{List, [], ◌∷◌, ◌++◌}
use mathlib.Core.Bool.{Bool, true, false, ◌&&◌, not, true≢false}
use Rattle.std.proofs.lemmas.Bool.{and_from}
use borrow.Author.Tests.{not-true}
use Rattle.check_records.proofs.record_rules.Judged.{and_left, and_right}
use Rattle.snapshot.specs.Lists.{all}
use Rattle.accept.proofs.Accepted.{by_test}
use Rattle.hir_def.specs.Finds.{select}
use Rattle.find_path_spec.proofs.laws.Walks.{select_hit, select_miss}
use Rattle.import_rules.specs.Collect.{insert_by, sort_into}
use Rattle.imports.specs.order.Lists.{merge_by}

-- what stands before another does so by way of any third; an order without ties among different elements need not be given
pub record Order {A : Type 0} (before : A → A → Bool) : Type 0 where
  pub never : (x : A) → before x x ≡ false
  pub through : (x y z : A) → before x y ≡ true → before y z ≡ true → before x z ≡ true
  pub between : (x y z : A) → before x z ≡ true → before x y ≡ false → before y z ≡ true

module _ {A : Type 0} (before : A → A → Bool) where
  pub insert_yes : (x y : A) (ys : List A) → before x y ≡ true → insert_by before x (y ∷ ys) ≡ x ∷ y ∷ ys
  unfolding insert_by
  insert_yes x y ys h = rw (insert_by, h)

  pub insert_no : (x y : A) (ys : List A) → before x y ≡ false → insert_by before x (y ∷ ys) ≡ y ∷ insert_by before x ys
  unfolding insert_by
  insert_no x y ys h = rw (insert_by, h)

  pub merge_second : (x y : A) (xs ys : List A) → before y x ≡ true → merge_by before (x ∷ xs) (y ∷ ys) ≡ y ∷ merge_by before (x ∷ xs) ys
  unfolding merge_by
  merge_second x y xs ys h = rw (merge_by, h)

  pub merge_first : (x y : A) (xs ys : List A) → before y x ≡ false → merge_by before (x ∷ xs) (y ∷ ys) ≡ x ∷ merge_by before xs (y ∷ ys)
  unfolding merge_by
  merge_first x y xs ys h = rw (merge_by, h)

  pub merge_none : (xs : List A) → merge_by before xs [] ≡ xs
  unfolding merge_by
  merge_none [] = refl
  merge_none (x ∷ xs) = refl

  module _ (o : Order before) where
    -- an element put into the second list is put into the whole
    insert_merge : (x : A) (us vs : List A) → insert_by before x (merge_by before us vs) ≡ merge_by before us (insert_by before x vs)
    unfolding merge_by insert_by
    insert_merge x [] vs = refl
    insert_merge x (a ∷ us) [] =
        by_test (before x a)
        (λ t. insert_yes x a us t ∙ sym (merge_second a x us [] t))
        (λ t. insert_no x a us t ∙ ap (λ r. a ∷ r) (ap (insert_by before x) (sym (merge_none us)) ∙ insert_merge x us [])
        ∙ sym (merge_first a x us [] t))
    insert_merge x (a ∷ us) (b ∷ vs) =
        by_test (before b a)
        (λ t. by_test (before x b)
        (λ u. ap (insert_by before x) (merge_second a b us vs t) ∙ insert_yes x b (merge_by before (a ∷ us) vs) u
        ∙ ap (λ r. x ∷ r) (sym (merge_second a b us vs t))
        ∙ sym (merge_second a x us (b ∷ vs) (o.through x b a u t)) ∙ ap (merge_by before (a ∷ us)) (sym (insert_yes x b vs u)))
        (λ u. ap (insert_by before x) (merge_second a b us vs t) ∙ insert_no x b (merge_by before (a ∷ us) vs) u
        ∙ ap (λ r. b ∷ r) (insert_merge x (a ∷ us) vs)
        ∙ sym (merge_second a b us (insert_by before x vs) t) ∙ ap (merge_by before (a ∷ us)) (sym (insert_no x b vs u))))
        (λ t. by_test (before x b)
        (λ u. by_test (before x a)
        (λ v. ap (insert_by before x) (merge_first a b us vs t) ∙ insert_yes x a (merge_by before us (b ∷ vs)) v
        ∙ ap (λ r. x ∷ r) (sym (merge_first a b us vs t))
        ∙ sym (merge_second a x us (b ∷ vs) v) ∙ ap (merge_by before (a ∷ us)) (sym (insert_yes x b vs u)))
        (λ v. ap (insert_by before x) (merge_first a b us vs t) ∙ insert_no x a (merge_by before us (b ∷ vs)) v
        ∙ ap (λ r. a ∷ r) (insert_merge x us (b ∷ vs) ∙ ap (merge_by before us) (insert_yes x b vs u))
        ∙ sym (merge_first a x us (b ∷ vs) v) ∙ ap (merge_by before (a ∷ us)) (sym (insert_yes x b vs u))))
        (λ u.
        let v : before x a ≡ false = by_test (before x a) (λ w. absurd (true≢false (sym (o.between x b a w u) ∙ t))) (λ w. w) in
        ap (insert_by before x) (merge_first a b us vs t) ∙ insert_no x a (merge_by before us (b ∷ vs)) v
        ∙ ap (λ r. a ∷ r) (insert_merge x us (b ∷ vs) ∙ ap (merge_by before us) (insert_no x b vs u))
        ∙ sym (merge_first a b us (insert_by before x vs) t) ∙ ap (merge_by before (a ∷ us)) (sym (insert_no x b vs u))))

    sort_merge : (us vs xs : List A) → sort_into before (merge_by before us vs) xs ≡ merge_by before us (sort_into before vs xs)
    unfolding sort_into
    sort_merge us vs [] = refl
    sort_merge us vs (x ∷ xs) = ap (λ r. sort_into before r xs) (insert_merge x us vs) ∙ sort_merge us (insert_by before x vs) xs

  sort_append : (us xs ys : List A) → sort_into before us (xs ++ ys) ≡ sort_into before (sort_into before us xs) ys
  unfolding sort_into
  sort_append us [] ys = refl
  sort_append us (x ∷ xs) ys = sort_append (insert_by before x us) xs ys

  pub sorted_merge : Order before → (xs ys : List A)
      → merge_by before (sort_into before [] xs) (sort_into before [] ys) ≡ sort_into before [] (xs ++ ys)
  sorted_merge o xs ys =
      sym (sort_append [] xs ys ∙ ap (λ r. sort_into before r ys) (sym (merge_none (sort_into before [] xs)))
      ∙ sort_merge o (sort_into before [] xs) [] ys)

-- an ordered list: nothing later stands before an earlier element
ordered : {A : Type 0} → (A → A → Bool) → List A → Bool
ordered before [] = true
ordered before (y ∷ ys) = all (λ z. not (before z y)) ys && ordered before ys

all_map : {A : Type 0} (p q : A → Bool) (ys : List A) → ((z : A) → p z ≡ true → q z ≡ true) → all p ys ≡ true → all q ys ≡ true
unfolding all
all_map p q [] f h = refl
all_map p q (y ∷ ys) f h = and_from (q y) (all q ys) (f y (and_left (p y) (all p ys) h)) (all_map p q ys f (and_right (p y) (all p ys) h))

module _ {A : Type 0} (before : A → A → Bool) (o : Order before) where
  all_insert : (q : A → Bool) (x : A) (ys : List A) → q x ≡ true → all q ys ≡ true → all q (insert_by before x ys) ≡ true
  unfolding all insert_by
  all_insert q x [] p h = and_from (q x) true p refl
  all_insert q x (y ∷ ys) p h =
      by_test (before x y)
      (λ t. ap (all q) (insert_yes before x y ys t) ∙ and_from (q x) (all q (y ∷ ys)) p h)
      (λ t. ap (all q) (insert_no before x y ys t) ∙ and_from (q y) (all q (insert_by before x ys)) (and_left (q y) (all q ys) h)
      (all_insert q x ys p (and_right (q y) (all q ys) h)))

  -- what stands before the first of an ordered list stands before all of it
  before_all : (x y : A) (ys : List A) → before x y ≡ true → ordered before (y ∷ ys) ≡ true → all (before x) (y ∷ ys) ≡ true
  unfolding all ordered
  before_all x y ys h g =
      and_from (before x y) (all (before x) ys) h
      (all_map (λ z. not (before z y)) (before x) ys
      (λ z p. by_test (before x z) (λ t. t) (λ t. absurd (true≢false (sym (o.between x z y h t) ∙ not-true (before z y) p))))
      (and_left (all (λ z. not (before z y)) ys) (ordered before ys) g))

  ordered_insert : (x : A) (ys : List A) → ordered before ys ≡ true → ordered before (insert_by before x ys) ≡ true
  unfolding all insert_by ordered
  ordered_insert x [] h = refl
  ordered_insert x (y ∷ ys) h =
      by_test (before x y)
      (λ t. ap (ordered before) (insert_yes before x y ys t)
      ∙ and_from (all (λ z. not (before z x)) (y ∷ ys)) (ordered before (y ∷ ys))
      (all_map (before x) (λ z. not (before z x)) (y ∷ ys)
      (λ z p. by_test (before z x) (λ u. absurd (true≢false (sym (o.through x z x p u) ∙ o.never x))) (λ u. ap not u)) (before_all x y ys t h)) h)
      (λ t. ap (ordered before) (insert_no before x y ys t)
      ∙ and_from (all (λ z. not (before z y)) (insert_by before x ys)) (ordered before (insert_by before x ys))
      (all_insert (λ z. not (before z y)) x ys (ap not t) (and_left (all (λ z. not (before z y)) ys) (ordered before ys) h))
      (ordered_insert x ys (and_right (all (λ z. not (before z y)) ys) (ordered before ys) h)))

  insert_front : (x : A) (ys : List A) → all (before x) ys ≡ true → insert_by before x ys ≡ x ∷ ys
  unfolding all insert_by
  insert_front x [] h = refl
  insert_front x (y ∷ ys) h = insert_yes before x y ys (and_left (before x y) (all (before x) ys) h)

  module _ (p : A → Bool) where
    all_select : (q : A → Bool) (ys : List A) → all q ys ≡ true → all q (select p ys) ≡ true
    unfolding all select
    all_select q [] h = refl
    all_select q (y ∷ ys) h =
        let rest = all_select q ys (and_right (q y) (all q ys) h) in
        by_test (p y)
        (λ t. ap (all q) (select_hit p y ys t) ∙ and_from (q y) (all q (select p ys)) (and_left (q y) (all q ys) h) rest)
        (λ t. ap (all q) (select_miss p y ys t) ∙ rest)

    select_in : (x : A) (ys : List A) → p x ≡ true → ordered before ys ≡ true → select p (insert_by before x ys) ≡ insert_by before x (select p ys)
    unfolding insert_by select all ordered
    select_in x [] h g = select_hit p x [] h
    select_in x (y ∷ ys) h g =
        let rest = select_in x ys h (and_right (all (λ z. not (before z y)) ys) (ordered before ys) g) in
        by_test (before x y)
        (λ t. ap (select p) (insert_yes before x y ys t) ∙ select_hit p x (y ∷ ys) h
        ∙ sym (insert_front x (select p (y ∷ ys)) (all_select (before x) (y ∷ ys) (before_all x y ys t g))))
        (λ t. ap (select p) (insert_no before x y ys t) ∙ by_test (p y)
        (λ u. select_hit p y (insert_by before x ys) u ∙ ap (λ r. y ∷ r) rest ∙ sym (insert_no before x y (select p ys) t)
        ∙ ap (insert_by before x) (sym (select_hit p y ys u)))
        (λ u. select_miss p y (insert_by before x ys) u ∙ rest ∙ ap (insert_by before x) (sym (select_miss p y ys u))))

    select_out : (x : A) (ys : List A) → p x ≡ false → select p (insert_by before x ys) ≡ select p ys
    unfolding insert_by select
    select_out x [] h = select_miss p x [] h
    select_out x (y ∷ ys) h =
        let rest = select_out x ys h in
        by_test (before x y)
        (λ t. ap (select p) (insert_yes before x y ys t) ∙ select_miss p x (y ∷ ys) h)
        (λ t. ap (select p) (insert_no before x y ys t) ∙ by_test (p y)
        (λ u. select_hit p y (insert_by before x ys) u ∙ ap (λ r. y ∷ r) rest ∙ sym (select_hit p y ys u))
        (λ u. select_miss p y (insert_by before x ys) u ∙ rest ∙ sym (select_miss p y ys u)))

    sort_select : (ys xs : List A) → ordered before ys ≡ true → select p (sort_into before ys xs) ≡ sort_into before (select p ys) (select p xs)
    unfolding sort_into select
    sort_select ys [] h = refl
    sort_select ys (x ∷ xs) h =
        let rest = sort_select (insert_by before x ys) xs (ordered_insert x ys h) in
        by_test (p x)
        (λ t. rest ∙ ap (λ r. sort_into before r (select p xs)) (select_in x ys t h)
        ∙ ap (sort_into before (select p ys)) (sym (select_hit p x xs t)))
        (λ t. rest ∙ ap (λ r. sort_into before r (select p xs)) (select_out x ys t)
        ∙ ap (sort_into before (select p ys)) (sym (select_miss p x xs t)))

    -- those of a sort that pass are the sort of those that pass
    pub sorted_select : (xs : List A) → select p (sort_into before [] xs) ≡ sort_into before [] (select p xs)
    unfolding select ordered
    sorted_select xs = sort_select [] xs refl
