-- The walk over records that stand in the words, one after the other: what it puts.
use Prim.Native.Nat.{ℕ, suc, ◌+◌, ◌-◌, ◌≤◌, ◌<◌}
use mathlib.Core.Path.{◌≡◌, refl, sym, ◌∙◌, ap, ap₂, subst}
use mathlib.Core.List.{List, [], ◌∷◌, ◌++◌, map, append_assoc, append-nil}
use mathlib.Core.Bool.{Bool, true, false}
use native.Mathlib.Omega.{arith}
use native.Mathlib.Nat.{add-zero}
use lib.ListN.{length, get_or, length-append}
use Rattle.snapshot.specs.Lists.{rows}
use Rattle.snapshot.specs.Words.{arguments_of, arguments_at}
use Rattle.snapshot.specs.declared.layout.Layout.{Layout}
use Rattle.hir_def.specs.Finds.{select}
use Rattle.edit_rules.specs.Written.{head_of, each_words}
use Rattle.join_rules.specs.Joined.{Numbers}
use Rattle.join_rules.proofs.Runs.{At, at_left, at_right, at_next, at_rows, kind_is, pay_is}
use Rattle.join.specs.records.Moves.{role_of, field_to, moved_word, moved_at, kept_words, walked, moved_run, run_of}
use Rattle.join.proofs.records.Laws.{word_head, word_field, left_none, left_next}

-- words that stand from one place to another
pub run_is : {W : List ℕ} {a : ℕ} (ws : List ℕ) (b : ℕ) → At W a ws → b ≡ a + length ws → run_of W a b ≡ ws
run_is {W} {a} ws b h e = at_rows ws (b - a) (omega arith) h

-- the words of a record that are given as a list, moved

unfoldable pub fields_to : Numbers → ℕ → ℕ → ℕ → ℕ → List ℕ → List ℕ
fields_to e k p v i [] = []
fields_to e k p v i (w ∷ ws) = field_to e p v (role_of k i) w ∷ fields_to e k p v (i + 1) ws

abbrev pub record_to : Numbers → ℕ → ℕ → ℕ → List ℕ → List ℕ
record_to e k p v ws = head_of k (field_to e p v (role_of k 0) p) ∷ fields_to e k p v 1 ws

module _ (e : Numbers) (k pay : ℕ) {X : List ℕ} {p : ℕ} {ws : List ℕ} (at : At X p (head_of k pay ∷ ws)) (low : pay < 268435456)
    (size : arguments_of k pay ≡ length ws) where
  pub arguments_is : arguments_at X p ≡ length ws
  arguments_is = ap₂ arguments_of (kind_is k pay at low) (pay_is k pay at low) ∙ size

  fields_are : (i : ℕ) (us : List ℕ) → At X (p + suc i) us → rows (moved_word e X p) (suc i) (length us) ≡ fields_to e k pay
      (get_or X (p + 4) 0) (suc i) us
  unfolding fields_to rows
  fields_are i [] h = refl
  fields_are i (u ∷ us) h =
      let g : At X (p + suc (suc i)) us = let q : p + suc i + 1 ≡ p + suc (suc i) = omega arith in subst (λ j. At X j us) q (at_next u us h) in
      let z : suc i + 1 ≡ suc (suc i) = omega arith in
      let w : get_or X (p + suc i) 0 ≡ u = ap (λ j. get_or X j 0) (sym (add-zero (p + suc i))) ∙ h.same 0 (omega arith) in
      let f : moved_word e X p (suc i) ≡ field_to e pay (get_or X (p + 4) 0) (role_of k (suc i)) u =
      word_field e X p (suc i) (λ n. omega arith)
      ∙ ap₂ (λ a b. field_to e a (get_or X (p + 4) 0) (role_of b (suc i)) (get_or X (p + suc i) 0)) (pay_is k pay at low) (kind_is k pay at low)
      ∙ ap (field_to e pay (get_or X (p + 4) 0) (role_of k (suc i))) w in
      ap₂ (λ a b. a ∷ b) f
      (ap (λ j. rows (moved_word e X p) j (length us)) z ∙ fields_are (suc i) us g ∙ ap (λ j. fields_to e k pay (get_or X (p + 4) 0) j us) (sym z))

  pub record_moved : moved_at e X p ≡ record_to e k pay (get_or X (p + 4) 0) ws
  unfolding rows
  record_moved =
      let o : 1 + arguments_at X p ≡ suc (length ws) = let z = arguments_is in omega arith in
      let a = ap (rows (moved_word e X p) 0) o in
      let q : p + 1 ≡ p + suc 0 = omega arith in
      let h : moved_word e X p 0 ≡ head_of k (field_to e pay (get_or X (p + 4) 0) (role_of k 0) pay) =
      word_head e X p 0 refl
      ∙ ap₂ (λ a b. head_of b (field_to e a (get_or X (p + 4) 0) (role_of b 0) a)) (pay_is k pay at low) (kind_is k pay at low) in
      a ∙ ap₂ (λ x y. x ∷ y) h (fields_are 0 ws (subst (λ j. At X j ws) q (at_next (head_of k pay) ws at)))

-- the walk goes from a place to another, and puts these words
pub record Passes (A : List ℕ) (l : Layout) (X : List ℕ) (end q n q' n' : ℕ) (out : List ℕ) : Type 0 where
  pub on : (f : ℕ) → end ≤ f + q → (g : ℕ) × (end ≤ g + q') × (walked f A l X q end n ≡ out ++ walked g A l X q' end n')

module _ {A : List ℕ} {l : Layout} {X : List ℕ} {end : ℕ} where
  pub passes_none : (q n : ℕ) → Passes A l X end q n q n []
  passes_none q n = record { on = λ f h. (f, h, refl) }

  pub passes_then : {q n r m u o : ℕ} {a b : List ℕ} → Passes A l X end q n r m a → Passes A l X end r m u o b → Passes A l X end q n u o (a ++ b)
  passes_then {a = a} {b = b} x y =
      record {
        on =
            λ f h.
            let i = x.on f h in
            let j = y.on i.0 i.1 in
            (j.0, j.1, i.2 ∙ ap (λ w. a ++ w) j.2 ∙ sym (append_assoc a b _));
      }

  pub passes_one : (q n : ℕ) → q < end → Passes A l X end q n (q + 1 + arguments_at X q) (n + 1) (kept_words A l X q n)
  passes_one q n h =
      record {
        on =
            λ f e.
            let m = left_next (record { fuel = f; enough = e; same = refl }) h in
            (m.left.fuel, m.left.enough, m.split ∙ ap (λ w. kept_words A l X q n ++ w) m.left.same);
      }

  pub passes_done : {q n' : ℕ} {out : List ℕ} → Passes A l X end q 0 end n' out → moved_run A l X q end ≡ out
  passes_done {q} {n'} {out} x =
      let i = x.on (end - q) (omega arith) in
      let z = left_none {A = A} {l = l} {X = X} {at = end} {end = end} {n = n'} (record { fuel = i.0; enough = i.1; same = refl }) (omega arith) in
      i.2 ∙ ap (λ w. out ++ w) z ∙ append-nil out

  pub passes_to : {q n r m u o : ℕ} {a b : List ℕ} → Passes A l X end q n r m a → r ≡ u → m ≡ o → a ≡ b → Passes A l X end q n u o b
  passes_to {q} {n} {r} {m} {u} {o} {a} {b} x e f g =
      subst (λ c. Passes A l X end q n u o c) g (subst (λ c. Passes A l X end q n u c a) f (subst (λ c. Passes A l X end q n c m a) e x))

-- what the walk does with a record of a list
pub record Step {R : Type 0} (A : List ℕ) (l : Layout) (X : List ℕ) (f h : R → List ℕ) (p : R → Bool) (x : R) (q n : ℕ) : Type 0 where
  pub some : 0 < length (f x)
  pub size : 1 + arguments_at X q ≡ length (f x)
  pub words : kept_words A l X q n ≡ elim (p x) [ true ↦ h x | false ↦ [] ]

pub each_passes : {R : Type 0} {A : List ℕ} {l : Layout} {X : List ℕ} {end : ℕ} (f h : R → List ℕ) (p : R → Bool) (d : R) (ys : List R) (q n : ℕ)
    → q + length (each_words f ys) ≤ end → At X q (each_words f ys)
    → ((i r : ℕ) → i < length ys → At X r (f (get_or ys i d)) → Step A l X f h p (get_or ys i d) r (n + i))
    → Passes A l X end q n (q + length (each_words f ys)) (n + length ys) (each_words h (select p ys))
unfolding each_words select
each_passes f h p d [] q n b at one = passes_to (passes_none q n) (omega arith) (omega arith) refl
each_passes {R} {A} {l} {X} {end} f h p d (y ∷ ys) q n b at one =
    let s = one 0 q (omega arith) (at_left (f y) (each_words f ys) at) in
    let s0 = s.some in
    let s1 = s.size in
    let c = length-append (f y) (each_words f ys) in
    let z : n + 0 ≡ n = add-zero n in
    let w : kept_words A l X q n ≡ elim (p y) [ true ↦ h y | false ↦ [] ] = ap (kept_words A l X q) (sym z) ∙ s.words in
    let o : q + 1 + arguments_at X q ≡ q + length (f y) = omega arith in
    let first = passes_to (passes_one {A = A} {l = l} {X = X} {end = end} q n (omega arith)) o refl w in
    let rest = each_passes {R = R} {A = A} {l = l} {X = X} {end = end} f h p d ys (q + length (f y)) (n + 1) (omega arith)
    (at_right (f y) (each_words f ys) at)
    (λ i r k a. let e : n + suc i ≡ n + 1 + i = omega arith in subst (λ j. Step A l X f h p (get_or ys i d) r j) e (one (suc i) r (omega arith) a)) in
    passes_to (passes_then first rest) (omega arith) (omega arith) (out (p y))
  where
    out : (b : Bool) → elim b [ true ↦ h y | false ↦ [] ] ++ each_words h (select p ys) ≡ each_words h
        (elim b [ true ↦ y ∷ select p ys | false ↦ select p ys ])
    out true = refl
    out false = refl

-- lists

pub select_all : {R : Type 0} (ys : List R) → select (λ x. true) ys ≡ ys
unfolding select
select_all [] = refl
select_all (y ∷ ys) = ap (λ l. y ∷ l) (select_all ys)

pub each_of_map : {R : Type 0} (f : R → List ℕ) (g : R → R) (ys : List R) → each_words (λ x. f (g x)) ys ≡ each_words f (map g ys)
unfolding each_words
each_of_map f g [] = refl
each_of_map f g (y ∷ ys) = ap (λ l. f (g y) ++ l) (each_of_map f g ys)
