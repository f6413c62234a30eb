-- A thread has the things of a key, in order.
use Prim.Native.Nat.{ℕ, zero, suc, ◌+◌, ◌-◌, ◌≤◌, ◌<◌}
use mathlib.Core.Path.{◌≡◌, refl, sym, ◌∙◌, ap}
use mathlib.Core.List.{List, [], ◌∷◌}
use mathlib.Core.Bool.{Bool, true, false, ◌&&◌, and-false}
use native.Mathlib.Omega.{arith}
use borrow.Author.Tests.{eq-eqb, ne_eqb, leb-true, leb-false}
use lib.Dec.{eqb, leb}
use Rattle.snapshot.specs.Lists.{rows}
use Rattle.check_records.specs.chains.Chains.{Last}
use Rattle.accept.proofs.Accepted.{by_test}
use Rattle.hir_def.specs.Finds.{select}
use Rattle.find_path_spec.proofs.laws.Walks.{select_hit, select_miss}
use Rattle.imports.specs.lists.Threads.{keyed, rest}

module _ {A : Type 0} (key : ℕ → ℕ) (b : ℕ) (f : ℕ → A) where
  keyed_yes : (n : ℕ) → key n ≡ b → keyed key b f (suc n) ≡ f n ∷ keyed key b f n
  unfolding keyed
  keyed_yes n h = rw (keyed, eq-eqb (key n) b h)

  keyed_no : (n : ℕ) → (key n ≡ b → ⊥) → keyed key b f (suc n) ≡ keyed key b f n
  unfolding keyed
  keyed_no n h = rw (keyed, ne_eqb (key n) b h)

  gap : (c n : ℕ) → c ≤ n → ((j : ℕ) → c ≤ j → j < n → key j ≡ b → ⊥) → keyed key b f n ≡ keyed key b f c
  gap c zero h g = let e : c ≡ 0 = omega arith in ap (keyed key b f) (sym e)
  gap c (suc n) h g =
      by_test (leb c n)
      (λ t. let r = leb-true c n t in keyed_no n (g n r (omega arith)) ∙ gap c n r (λ j p q. g j p (omega arith)))
      (λ t. let r = leb-false c n t in let e : suc n ≡ c = omega arith in ap (keyed key b f) e)

  -- from the last with the key on
  keyed_last : {n c : ℕ} → Last key b n c → keyed key b f n ≡ keyed key b f c
  keyed_last {n} {c} l = gap c n l.within l.none

  keyed_none : (c : ℕ) → c ≡ 0 → keyed key b f c ≡ []
  unfolding keyed
  keyed_none c e = rw e

  keyed_next : (c : ℕ) {d : ℕ} → 0 < c → key (c - 1) ≡ b → Last key (key (c - 1)) (c - 1) d → keyed key b f c ≡ f (c - 1) ∷ keyed key b f d
  keyed_next zero h e l = absurd (omega arith)
  keyed_next (suc c) {d} h e l =
      let z : suc c - 1 ≡ c = omega arith in
      keyed_yes c (ap key (sym z) ∙ e)
      ∙ ap (λ x. f x ∷ keyed key b f c) (sym z)
      ∙ ap (λ x. f (suc c - 1) ∷ x) (ap (keyed key b f) (sym z) ∙ gap d (suc c - 1) l.within (λ j p q r. l.none j p q (r ∙ sym e)))

-- what is left of a thread from a number on, which is one more, 0 at the end
module _ {A : Type 0} (key : ℕ → ℕ) (f : ℕ → A) where
  own_key : (b c : ℕ) → (0 < c → key (c - 1) ≡ b) → keyed key b f c ≡ rest key f c
  own_key b zero h = keyed_none key b f 0 refl ∙ sym (keyed_none key (key (0 - 1)) f 0 refl)
  own_key b (suc c) h = ap (λ x. keyed key x f (suc c)) (sym (h (omega arith)))

  pub rest_first : {b n c : ℕ} → Last key b n c → rest key f c ≡ keyed key b f n
  rest_first {b} {n} {c} l = sym (keyed_last key b f l ∙ own_key b c l.keyed)

  pub rest_next : (c : ℕ) {d : ℕ} → 0 < c → Last key (key (c - 1)) (c - 1) d → rest key f c ≡ f (c - 1) ∷ rest key f d
  rest_next c {d} h l = keyed_next key (key (c - 1)) f c h refl l ∙ ap (λ x. f (c - 1) ∷ x) (own_key (key (c - 1)) d l.keyed)

  pub rest_none : (c : ℕ) → c ≡ 0 → rest key f c ≡ []
  rest_none c e = keyed_none key (key (c - 1)) f c e

-- those below n from the last of N on are the last n
module _ {A : Type 0} (k : A → ℕ) (g : ℕ → A) (b N : ℕ) where
  keyed_part : (n : ℕ) → n ≤ N → keyed (λ j. k (g (N - 1 - j))) b (λ j. g (N - 1 - j)) n ≡ select (λ x. eqb (k x) b) (rows g (N - n) n)
  unfolding keyed select rows
  keyed_part zero h = refl
  keyed_part (suc n) h =
      let e : N - suc n + 1 ≡ N - n = omega arith in
      let d : N - suc n ≡ N - 1 - n = omega arith in
      ap (λ x. elim (eqb (k (g (N - 1 - n))) b) [ true ↦ g (N - 1 - n) ∷ x | false ↦ x ]) (keyed_part n (omega arith)
      ∙ ap (λ x. select (λ y. eqb (k y) b) (rows g x n)) (sym e))
      ∙ ap (λ x. select (λ y. eqb (k y) b) (g x ∷ rows g (N - suc n + 1) n)) (sym d)

  pub keyed_rows : keyed (λ j. k (g (N - 1 - j))) b (λ j. g (N - 1 - j)) N ≡ select (λ x. eqb (k x) b) (rows g 0 N)
  keyed_rows = let e : N - N ≡ 0 = omega arith in keyed_part N (omega arith) ∙ ap (λ x. select (λ y. eqb (k y) b) (rows g x N)) e

-- two tests one after the other
pub select_both : {A : Type 0} (p q : A → Bool) (xs : List A) → select p (select q xs) ≡ select (λ x. p x && q x) xs
unfolding select
select_both p q [] = refl
select_both {A} p q (x ∷ xs) =
    let both : (A → Bool) = λ y. p y && q y in
    let rest = select_both p q xs in
    by_test (q x)
    (λ t. ap (select p) (select_hit q x xs t) ∙ by_test (p x)
    (λ u. select_hit p x (select q xs) u ∙ ap (λ r. x ∷ r) rest ∙ sym (select_hit both x xs (rw (u, t))))
    (λ u. select_miss p x (select q xs) u ∙ rest ∙ sym (select_miss both x xs (rw u))))
    (λ t. ap (select p) (select_miss q x xs t) ∙ rest ∙ sym (select_miss both x xs (rw t (and-false (p x)))))
