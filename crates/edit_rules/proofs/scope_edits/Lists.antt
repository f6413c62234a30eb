-- Laws of lists that got one more or lost one.
use Prim.Native.Nat.{ℕ, ◌+◌, ◌≤◌, ◌<◌}
use mathlib.Core.Path.{◌≡◌, refl, sym, ◌∙◌, ap}
use mathlib.Core.List.{List, [], ◌∷◌, ◌++◌, map, append_assoc}
use mathlib.Core.Bool.{Bool, true, false, ◌||◌, or-false, or_assoc, or-true}
use native.Mathlib.Omega.{arith}
use lib.ListN.{length, get_or, take, drop, length-append, length-take, length-drop, take-append-drop, get_or-append}
use lib.Seq.{get_or-take, get_or-drop, get_or-append-add, length-take-le, take_at, drop_at}
use Rattle.snapshot.specs.Lists.{any}
use Rattle.snapshot.specs.Records.{Scope}
use Rattle.accept.specs.Valid.{Each, none, more}
use Rattle.accept.proofs.Bools.{or_none_lem}
use Rattle.edit_rules.specs.Entries.{lower, moved_scope, without, inserted, cut}

-- what each element has by two lists of facts
pub each_two : {A : Type 0} {P Q R : A → Type 0} {xs : List A} → ((x : A) → P x → Q x → R x) → Each P xs → Each Q xs → Each R xs
each_two f none none = none
each_two f (more {x = x} p ps) (more q qs) = more (f x p q) (each_two f ps qs)

pub each_both : {A : Type 0} {P Q : A → Type 0} {xs : List A} → Each P xs → Each Q xs → Each (λ x. P x × Q x) xs
each_both a b = each_two (λ x p q. (p, q)) a b

pub any_append : {A : Type 0} (t : A → Bool) (xs ys : List A) → any t (xs ++ ys) ≡ (any t xs || any t ys)
unfolding any
any_append t [] ys = refl
any_append t (x ∷ xs) ys = ap (λ b. t x || b) (any_append t xs ys) ∙ sym (or_assoc (t x) (any t xs) (any t ys))

pub any_snoc : {A : Type 0} (t : A → Bool) (xs : List A) (y : A) → any t (xs ++ (y ∷ [])) ≡ (any t xs || t y)
unfolding any
any_snoc t xs y = any_append t xs (y ∷ []) ∙ ap (λ b. any t xs || b) (or-false (t y))

-- records that are changed where the test does not look
pub any_map : {A : Type 0} (t : A → Bool) (f : A → A) → ((x : A) → t (f x) ≡ t x) → (xs : List A) → any t (map f xs) ≡ any t xs
unfolding any
any_map t f h [] = refl
any_map t f h (x ∷ xs) = ap (λ b. b || any t (map f xs)) (h x) ∙ ap (λ b. t x || b) (any_map t f h xs)

-- one taken out of the middle
pub any_less : {A : Type 0} (t : A → Bool) (xs : List A) (y : A) (ys : List A) → any t (xs ++ (y ∷ ys)) ≡ false → any t (xs ++ ys) ≡ false
unfolding any
any_less t xs y ys e =
    let f = or_none_lem (any t xs) (t y || any t ys) (sym (any_append t xs (y ∷ ys)) ∙ e) in
    any_append t xs ys ∙ rw f.0 (or_none_lem (t y) (any t ys) f.1).1

pub any_middle : {A : Type 0} (t : A → Bool) (xs : List A) (y : A) (ys : List A) → t y ≡ true → any t (xs ++ (y ∷ ys)) ≡ true
unfolding any
any_middle t xs y ys e = any_append t xs (y ∷ ys) ∙ rw e (or-true (any t xs))

pub without_middle : (t : Scope → Bool) (xs : List Scope) (y : Scope) (ys : List Scope) → any t xs ≡ false → t y ≡ true
    → without t (xs ++ (y ∷ ys)) ≡ xs ++ map (moved_scope lower) ys
unfolding any without
without_middle t [] y ys e h = rw h
without_middle t (x ∷ xs) y ys e h =
    let f = or_none_lem (t x) (any t xs) e in
    rw (without, f.0) (ap (λ l. x ∷ l) (without_middle t xs y ys f.1 h))

-- words put in, and taken out

module _ (W E : List ℕ) (p : ℕ) (h : p ≤ length W) where
  pub inserted_length : length (inserted p E W) ≡ length W + length E
  inserted_length = simp (length-append, length-take, length-drop) (omega arith)

  pub inserted_before : (i : ℕ) → i < p → get_or (inserted p E W) i 0 ≡ get_or W i 0
  inserted_before i k =
      get_or-append (take p W) (E ++ drop p W) 0 i (rw (length-take-le p W h) k) ∙ get_or-take p W i 0 k

  from : (n : ℕ) → get_or (inserted p E W) (p + n) 0 ≡ get_or (E ++ drop p W) n 0
  from n =
      ap (λ k. get_or (inserted p E W) (k + n) 0) (sym (length-take-le p W h)) ∙ get_or-append-add (take p W) (E ++ drop p W) n 0

  pub inserted_at : (i : ℕ) → i < length E → get_or (inserted p E W) (p + i) 0 ≡ get_or E i 0
  inserted_at i k = from i ∙ get_or-append E (drop p W) 0 i k

  pub inserted_after : (n : ℕ) → n ≡ length E → (i : ℕ) → get_or (inserted p E W) (p + n + i) 0 ≡ get_or W (p + i) 0
  inserted_after n e i =
      let q : p + n + i ≡ p + (length E + i) = omega arith in
      ap (λ k. get_or (inserted p E W) k 0) q ∙ from (length E + i) ∙ get_or-append-add E (drop p W) i 0 ∙ get_or-drop p W i 0

  -- and taken out again
  pub cut_inserted : (n : ℕ) → n ≡ length E → cut p n (inserted p E W) ≡ W
  cut_inserted n e =
      let l = length-take-le p W h in
      let a : take p (inserted p E W) ≡ take p W = take_at (take p W) (E ++ drop p W) p l in
      let m : length (take p W ++ E) ≡ p + n = rw (length-append, l, e) in
      let b : drop (p + n) (inserted p E W) ≡ drop p W =
      ap (drop (p + n)) (sym (append_assoc (take p W) E (drop p W))) ∙ drop_at (take p W ++ E) (drop p W) (p + n) m in
      rw (a, b) (take-append-drop p W)

module _ (W : List ℕ) (p n : ℕ) (h : p + n ≤ length W) where
  pub cut_length : length (cut p n W) + n ≡ length W
  cut_length = simp (length-append, length-take, length-drop) (omega arith)

  pub cut_before : (i : ℕ) → i < p → get_or (cut p n W) i 0 ≡ get_or W i 0
  cut_before i k =
      let q : p ≤ length W = omega arith in
      get_or-append (take p W) (drop (p + n) W) 0 i (rw (length-take-le p W q) k) ∙ get_or-take p W i 0 k

  pub cut_after : (i : ℕ) → get_or (cut p n W) (p + i) 0 ≡ get_or W (p + n + i) 0
  cut_after i =
      let q : p ≤ length W = omega arith in
      ap (λ k. get_or (cut p n W) (k + i) 0) (sym (length-take-le p W q)) ∙ get_or-append-add (take p W) (drop (p + n) W) i 0
      ∙ get_or-drop (p + n) W i 0
