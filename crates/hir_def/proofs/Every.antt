-- What every element has, of lists that are joined, made element by element, or chosen from.
use mathlib.Core.Path.{◌≡◌, sym, subst}
use mathlib.Core.List.Memᴰ
use mathlib.Core.List.{List, ◌++◌, map, Memᴰ}
use mathlib.Core.Bool.{Bool, true}
use Rattle.accept.specs.Valid.{Each, none, more}
use Rattle.accept.proofs.Accepted.{by_test}
use Rattle.hir_def.specs.Finds.{select}

pub each_in : {A : Type 0} {P : A → Type 0} {y : A} {xs : List A} → Each P xs → Memᴰ y xs → P y
each_in none m = absurd (Memᴰ.not-nil m)
each_in {P = P} (more p h) (Memᴰ.head e) = subst P (sym e) p
each_in (more p h) (Memᴰ.tail m) = each_in h m

pub each_append : {A : Type 0} {P : A → Type 0} {xs ys : List A} → Each P xs → Each P ys → Each P (xs ++ ys)
each_append none h = h
each_append (more p g) h = more p (each_append g h)

pub each_mapped : {A B : Type 0} {P : A → Type 0} {Q : B → Type 0} (f : A → B) {xs : List A} → ((x : A) → P x → Q (f x)) → Each P xs
    → Each Q (map f xs)
each_mapped f h none = none
each_mapped f h (more {x = x} p ps) = more (h x p) (each_mapped f h ps)

pub each_map_select : {A B : Type 0} {P : A → Type 0} {Q : B → Type 0} (p : A → Bool) (f : A → B) {xs : List A}
    → ((x : A) → P x → p x ≡ true → Q (f x)) → Each P xs → Each Q (map f (select p xs))
unfolding select
each_map_select p f h none = none
each_map_select p f h (more {x = x} q qs) =
    by_test (p x)
    (λ t. rw (t, select) (more (h x q t) (each_map_select p f h qs)))
    (λ t. rw (t, select) (each_map_select p f h qs))
