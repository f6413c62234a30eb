-- Maps, each before its modules: those of two parts, and what the walk puts for the second's.
use Prim.Native.Nat.{ℕ, suc, ◌+◌, ◌≤◌, ◌<◌}
use mathlib.Core.Path.{◌≡◌, refl, sym, ◌∙◌, ap, ap₂, subst}
use mathlib.Core.List.{List, [], ◌∷◌, ◌++◌, map, append_assoc, append-nil}
use native.Mathlib.Omega.{arith}
use native.Mathlib.Nat.{add-zero}
use borrow.Author.Tests.{eq-eqb, ne_eqb, eqb-true, eqb-false}
use lib.Dec.{eqb}
use lib.ListN.{length, get_or, length-append}
use Rattle.snapshot.specs.Words.{arguments_of}
use Rattle.snapshot.specs.Records.{Map, Module}
use Rattle.snapshot.specs.declared.layout.Layout.{Layout}
use Rattle.accept.specs.Valid.{Each, more}
use Rattle.accept.proofs.Accepted.{by_test}
use Rattle.accept.proofs.Bools.{each_map}
use Rattle.edit_rules.specs.Written.{head_of, map_words, module_words, each_words, words_within, tree_words}
use Rattle.join_rules.specs.Joined.{Numbers, map_to, module_to}
use Rattle.join_rules.proofs.Runs.{At, at_left, at_right, kind_is, words_append, Small}
use Rattle.join.specs.records.Moves.{numbers_of, role_of, field_to, kept_words}
use Rattle.join.proofs.records.Laws.{kept_other, kept_is}
use Rattle.join.proofs.records.Passes.{fields_to, record_to, arguments_is, record_moved, Passes, passes_none, passes_then, passes_one, passes_to}

-- a record that is neither a name nor a definition is put
module _ (A : List ℕ) (l : Layout) (k pay : ℕ) {X : List ℕ} {q : ℕ} {ws : List ℕ} (at : At X q (head_of k pay ∷ ws)) (low : pay < 268435456)
    (size : arguments_of k pay ≡ length ws)
  where
    pub kept_plain : (k ≡ 1 → ⊥) → (k ≡ 8 → ⊥) → (n : ℕ) → kept_words A l X q n ≡ record_to (numbers_of A l) k pay (get_or X (q + 4) 0) ws
    kept_plain a b n =
        let o = kept_other A l X q n (sym (kind_is k pay at low)) a b in
        sym (kept_is A l X q n o refl) ∙ record_moved (numbers_of A l) k pay at low size

-- two parts

within_none : (k : ℕ) (xs : List Module) → Each (λ x. x.map ≡ k → ⊥) xs → each_words (words_within k) xs ≡ []
unfolding each_words
within_none k [] h = refl
within_none k (x ∷ xs) (more p h) =
    let w : words_within k x ≡ [] = rw (words_within, ne_eqb x.map k p) in
    ap₂ (λ a b. a ++ b) w (within_none k xs h)

-- modules of earlier maps have no words
tree_drop : (k : ℕ) (ms : List Map) (xs ys : List Module) → Each (λ x. x.map < k) xs → tree_words k ms (xs ++ ys) ≡ tree_words k ms ys
unfolding tree_words
tree_drop k [] xs ys h = refl
tree_drop k (m ∷ ms) xs ys h =
    let a = words_append (words_within k) xs ys ∙ ap (λ l. l ++ each_words (words_within k) ys)
    (within_none k xs (each_map (λ x p z. omega (arith, p)) h)) in
    ap₂ (λ u v. map_words m ++ (u ++ v)) a (tree_drop (k + 1) ms xs ys (each_map (λ x p. omega (arith, p)) h))

pub tree_both : (k : ℕ) (ms ns : List Map) (xs ys : List Module) → Each (λ x. x.map < k + length ms) xs → Each (λ x. k + length ms ≤ x.map) ys
    → tree_words k (ms ++ ns) (xs ++ ys) ≡ tree_words k ms xs ++ tree_words (k + length ms) ns ys
unfolding tree_words
tree_both k [] ns xs ys h g =
    let z : k + 0 ≡ k = add-zero k in
    tree_drop k ns xs ys (subst (λ n. Each (λ x. x.map < n) xs) z h) ∙ ap (λ n. tree_words n ns ys) (sym z)
tree_both k (m ∷ ms) ns xs ys h g =
    let z : k + suc (length ms) ≡ k + 1 + length ms = omega arith in
    let a = each_words (words_within k) xs in
    let b = tree_words (k + 1) ms xs in
    let c = tree_words (k + 1 + length ms) ns ys in
    let e : each_words (words_within k) (xs ++ ys) ≡ a =
    words_append (words_within k) xs ys ∙ ap (λ l. a ++ l) (within_none k ys (each_map (λ x p q. omega (arith, p)) g)) ∙ append-nil a in
    let r = tree_both (k + 1) ms ns xs ys (subst (λ n. Each (λ x. x.map < n) xs) z h) (subst (λ n. Each (λ x. n ≤ x.map) ys) z g) in
    ap₂ (λ u v. map_words m ++ (u ++ v)) e r
    ∙ ap (λ l. map_words m ++ l) (sym (append_assoc a b c))
    ∙ sym (append_assoc (map_words m) (a ++ b) c)
    ∙ ap (λ n. (map_words m ++ (a ++ b)) ++ tree_words n ns ys) (sym z)

-- the walk over the second's

module _ (A : List ℕ) (l : Layout) (X : List ℕ) (end : ℕ) where
  abbrev e : Numbers
  e = numbers_of A l

  map_passes : (x : Map) (q n : ℕ) → q + 3 ≤ end → At X q (map_words x) → Small x.crate
      → Passes A l X end q n (q + 3) (n + 1) (map_words (map_to e x))
  unfolding fields_to role_of field_to arguments_of
  map_passes x q n b at low =
      let s = arguments_is e 4 x.crate at low refl in
      passes_to (passes_one {A = A} {l = l} {X = X} {end = end} q n (omega arith)) (omega arith) refl
      (kept_plain A l 4 x.crate at low refl (λ z. omega arith) (λ z. omega arith) n)

  module_passes : (x : Module) (q n : ℕ) → q + 2 ≤ end → At X q (module_words x) → Small x.map
      → Passes A l X end q n (q + 2) (n + 1) (module_words (module_to e x))
  unfolding fields_to role_of field_to arguments_of
  module_passes x q n b at low =
      let s = arguments_is e 5 x.map at low refl in
      passes_to (passes_one {A = A} {l = l} {X = X} {end = end} q n (omega arith)) (omega arith) refl
      (kept_plain A l 5 x.map at low refl (λ z. omega arith) (λ z. omega arith) n)

  -- to there, whatever the number of the next record is
  abbrev To : ℕ → ℕ → ℕ → List ℕ → Type 0
  To q n r out = (m : ℕ) × Passes A l X end q n r m out

  to_as : {q n r u : ℕ} {a b : List ℕ} → To q n r a → r ≡ u → a ≡ b → To q n u b
  to_as x p f = (x.0, passes_to x.1 p refl f)

  to_then : {q n r u : ℕ} {a b : List ℕ} → To q n r a → ((m : ℕ) → To r m u b) → To q n u (a ++ b)
  to_then x f = let y = f x.0 in (y.0, passes_then x.1 y.1)

  one_within : (k : ℕ) (x : Module) (q n : ℕ) → q + length (words_within k x) ≤ end → At X q (words_within k x) → Small x.map
      → To q n (q + length (words_within k x)) (words_within (l.maps + k) (module_to e x))
  one_within k x q n b at low =
      by_test (eqb x.map k)
      (λ t.
      let w : words_within k x ≡ module_words x = rw (words_within, t) in
      let s : l.maps + x.map ≡ l.maps + k = ap (λ i. l.maps + i) (eqb-true x.map k t) in
      let u : words_within (l.maps + k) (module_to e x) ≡ module_words (module_to e x) = rw (words_within, eq-eqb (l.maps + x.map) (l.maps + k) s) in
      let n2 = ap length w in
      to_as (n + 1, module_passes x q n (omega arith) (subst (At X q) w at) low) (omega arith) (sym u))
      (λ t.
      let w : words_within k x ≡ [] = rw (words_within, t) in
      let ne = eqb-false x.map k t in
      let u : words_within (l.maps + k) (module_to e x) ≡ [] = rw (words_within, ne_eqb (l.maps + x.map) (l.maps + k) (λ z. ne (omega arith))) in
      let n2 = ap length w in
      to_as (n, passes_none q n) (omega arith) (sym u))

  within_passes : (k : ℕ) (xs : List Module) (q n : ℕ) → q + length (each_words (words_within k) xs) ≤ end → At X q (each_words (words_within k) xs)
      → Each (λ x. Small x.map) xs
      → To q n (q + length (each_words (words_within k) xs)) (each_words (words_within (l.maps + k)) (map (module_to e) xs))
  unfolding each_words
  within_passes k [] q n b at h = to_as (n, passes_none q n) (omega arith) refl
  within_passes k (x ∷ xs) q n b at (more p h) =
      let w = words_within k x in
      let c = length-append w (each_words (words_within k) xs) in
      to_as
      (to_then (one_within k x q n (omega arith) (at_left w (each_words (words_within k) xs) at) p)
      (λ m. within_passes k xs (q + length w) m (omega arith) (at_right w (each_words (words_within k) xs) at) h))
      (omega arith) refl

  pub tree_passes : (k : ℕ) (ms : List Map) (xs : List Module) (q n : ℕ) → q + length (tree_words k ms xs) ≤ end → At X q (tree_words k ms xs)
      → Each (λ x. Small x.crate) ms → Each (λ x. Small x.map) xs
      → (m : ℕ) × Passes A l X end q n (q + length (tree_words k ms xs)) m (tree_words (l.maps + k) (map (map_to e) ms) (map (module_to e) xs))
  unfolding tree_words
  tree_passes k [] xs q n b at h g = to_as (n, passes_none q n) (omega arith) refl
  tree_passes k (y ∷ ms) xs q n b at (more p h) g =
      let w = each_words (words_within k) xs in
      let t = tree_words (k + 1) ms xs in
      let c = length-append w t in
      let d = length-append (map_words y) (w ++ t) in
      let r = at_right (map_words y) (w ++ t) at in
      let z : l.maps + (k + 1) ≡ l.maps + k + 1 = omega arith in
      to_as
      (to_then (n + 1, map_passes y q n (omega arith) (at_left (map_words y) (w ++ t) at) p)
      (λ m. to_then (within_passes k xs (q + 3) m (omega arith) (at_left w t r) g)
      (λ o. to_as (tree_passes (k + 1) ms xs (q + 3 + length w) o (omega arith) (at_right w t r) h g) refl
      (ap (λ i. tree_words i (map (map_to e) ms) (map (module_to e) xs)) z))))
      (omega arith) refl
