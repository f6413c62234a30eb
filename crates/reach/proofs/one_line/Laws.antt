-- Laws of the line of a reach.
use Prim.Native.Nat.{ℕ, zero, suc, ◌+◌, ◌-◌, ◌≤◌, ◌<◌}
use mathlib.Core.Path.{◌≡◌, refl, sym, ◌∙◌, ap}
use mathlib.Core.List.{List, [], ◌∷◌, ◌++◌, map, append_assoc, append-nil}
use native.Mathlib.Omega.{arith}
use native.Mathlib.Numerals.{add-one}
use borrow.Author.Tests.{eq-eqb, ne_eqb}
use lib.ListN.{length, take, drop, get_or, length-take, length-drop}
use lib.Seq.{take-suc, take_all, get_or-take, get_or-drop}
use Rattle.check_rules.specs.Verdict.{empty}
use Rattle.find_path_spec.specs.Line.{bytes_of, decimal, joined, line_in}
use Rattle.find_path_spec.specs.Report.{refused}
use Rattle.reach.specs.parts.Reach.{Reach, reach_line}

-- one part more
joined_more : (j p : List ℕ) (ps : List (List ℕ)) (q : List ℕ) → joined j ((p ∷ ps) ++ (q ∷ [])) ≡ joined j (p ∷ ps) ++ (j ++ q)
unfolding joined
joined_more j p [] q = refl
joined_more j p (r ∷ ps) q =
    ap (λ x. p ++ (j ++ x)) (joined_more j r ps q) ∙ ap (λ x. p ++ x) (sym (append_assoc j (joined j (r ∷ ps)) (j ++ q)))
    ∙ sym (append_assoc p (j ++ joined j (r ∷ ps)) (j ++ q))

-- the first i numbers
abbrev numbers_to : List ℕ → ℕ → List ℕ
numbers_to ns i = joined (bytes_of " ") (map decimal (take i ns))

map_snoc : (ns : List ℕ) (n : ℕ) → map decimal (ns ++ (n ∷ [])) ≡ map decimal ns ++ (decimal n ∷ [])
map_snoc [] n = refl
map_snoc (x ∷ ns) n = ap (λ z. decimal x ∷ z) (map_snoc ns n)

number_first : (ns : List ℕ) → 0 < length ns → decimal (get_or ns 0 0) ≡ numbers_to ns 1
unfolding joined
number_first [] h = absurd (omega arith)
number_first (n ∷ ns) h = refl

after_first : (ns : List ℕ) (i : ℕ) (q : List ℕ) → 1 ≤ i → i < length ns
    → joined (bytes_of " ") (map decimal (take i ns) ++ (q ∷ [])) ≡ numbers_to ns i ++ (bytes_of " " ++ q)
after_first [] i q h l = absurd (omega arith)
after_first (n ∷ ns) zero q h l = absurd (omega arith)
after_first (n ∷ ns) (suc i) q h l = joined_more (bytes_of " ") (decimal n) (map decimal (take i ns)) q

number_next : (ns : List ℕ) (i : ℕ) → 1 ≤ i → i < length ns → numbers_to ns i ++ (bytes_of " " ++ decimal (get_or ns i 0)) ≡ numbers_to ns (i + 1)
number_next ns i h l =
    sym (after_first ns i (decimal (get_or ns i 0)) h l)
    ∙ ap (joined (bytes_of " ")) (sym (map_snoc (take i ns) (get_or ns i 0))
    ∙ ap (map decimal) (sym (ap (λ k. take k ns) (add-one i) ∙ take-suc ns i 0 l)))

numbers_done : (ns : List ℕ) (i : ℕ) → length ns ≤ i → numbers_to ns i ≡ joined (bytes_of " ") (map decimal ns)
numbers_done ns i h = ap (λ x. joined (bytes_of " ") (map decimal x)) (take_all i ns h)

-- the numbers after the first, up to i of them in all, each after a blank
pub rest_to : List ℕ → ℕ → List ℕ
rest_to ns zero = []
rest_to ns (suc zero) = []
rest_to ns (suc (suc i)) = rest_to ns (suc i) ++ (bytes_of " " ++ decimal (get_or ns (suc i) 0))

pub rest_one : (ns : List ℕ) → [] ≡ rest_to ns 1
unfolding rest_to
rest_one ns = refl

pub rest_next : (ns : List ℕ) (i : ℕ) → 1 ≤ i → rest_to ns i ++ (bytes_of " " ++ decimal (get_or ns i 0)) ≡ rest_to ns (i + 1)
unfolding rest_to
rest_next ns zero h = absurd (omega arith)
rest_next ns (suc i) h = ap (rest_to ns) (sym (add-one (suc i)))

-- the numbers past the first, as a slice
pub rest_length : (ns : List ℕ) → length (take (length ns - 1) (drop 1 ns)) ≡ length ns - 1
rest_length ns = simp (length-take, length-drop) (omega arith)

pub rest_slice : (ns : List ℕ) (i : ℕ) {n : ℕ} → i < length ns - 1 → n ≡ get_or (take (length ns - 1) (drop 1 ns)) i 0
    → rest_to ns (i + 1) ++ (bytes_of " " ++ decimal n) ≡ rest_to ns (i + 1 + 1)
rest_slice ns i h e =
    let k : 1 + i ≡ i + 1 = omega arith in
    ap (λ x. rest_to ns (i + 1) ++ (bytes_of " " ++ decimal x))
    (e ∙ get_or-take (length ns - 1) (drop 1 ns) i 0 h ∙ get_or-drop 1 ns i 0 ∙ ap (λ j. get_or ns j 0) k)
    ∙ rest_next ns (i + 1) (omega arith)

rest_all : (ns : List ℕ) (i : ℕ) → 1 ≤ i → i ≤ length ns → decimal (get_or ns 0 0) ++ rest_to ns i ≡ numbers_to ns i
unfolding rest_to
rest_all ns zero h l = absurd (omega arith)
rest_all ns (suc zero) h l = append-nil _ ∙ number_first ns (omega arith)
rest_all ns (suc (suc i)) h l =
    sym (append_assoc (decimal (get_or ns 0 0)) (rest_to ns (suc i)) _)
    ∙ ap (λ x. x ++ (bytes_of " " ++ decimal (get_or ns (suc i) 0))) (rest_all ns (suc i) (omega arith) (omega arith))
    ∙ number_next ns (suc i) (omega arith) (omega arith)
    ∙ ap (numbers_to ns) (add-one (suc i))

pub rest_done : (ns : List ℕ) (i : ℕ) → 1 ≤ i → i ≤ length ns → length ns ≤ i
    → decimal (get_or ns 0 0) ++ rest_to ns i ≡ joined (bytes_of " ") (map decimal ns)
rest_done ns i h l k = rest_all ns i h l ∙ numbers_done ns i k

module _ (number : ℕ) (counts : List ℕ) where
  abbrev Told : Reach
  Told = record { number = number; counts = counts }

  pub refusal_text : (number ≡ 0 → ⊥) → line_in empty 0 (refused number) ++ bytes_of "\n" ≡ reach_line Told ++ bytes_of "\n"
  unfolding reach_line
  refusal_text h = rw (reach_line, ne_eqb _ _ h)

  pub counts_text : number ≡ 0 → joined (bytes_of " ") (map decimal counts) ++ bytes_of "\n" ≡ reach_line Told ++ bytes_of "\n"
  unfolding reach_line
  counts_text h = rw (reach_line, eq-eqb _ _ h)
