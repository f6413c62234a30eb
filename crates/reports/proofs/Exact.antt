-- The words of a report are its numbers: no number needs more than 32 bits.
use Prim.Native.Nat.{ℕ, suc, ◌≤◌}
use mathlib.Core.Path.{◌≡◌, refl, ap₂}
use mathlib.Core.List.{List, [], ◌∷◌, ◌++◌, map}
use native.Mathlib.Omega.{arith}
use lib.ListN.{get_or}
use Rattle.find_path_spec.specs.declared.Question.{Question}
use Rattle.find_path_spec.specs.declared.Report.{Report}
use Rattle.find_path_spec.specs.Report.{report_of}
use Rattle.find_path_spec.specs.laws.Fuels.{Bounded, Small}
use Rattle.find_path_spec.proofs.laws.Reports.{report_bounded, report_small}
use Rattle.reports.specs.Written.{low, report_words, report_numbers}

low_same : (x : ℕ) → x ≤ 131072 → low x ≡ x
low_same x h = omega arith

all_low : (ns : List ℕ) → ((i : ℕ) → get_or ns i 0 ≤ 131072) → map low ns ≡ ns
all_low [] h = refl
all_low (n ∷ ns) h = ap₂ (λ x l. x ∷ l) (low_same n (h 0)) (all_low ns (λ i. h (suc i)))

none_low : map low [] ≡ []
none_low = refl

each_low : (x : ℕ) {l : List ℕ} → x ≤ 131072 → map low l ≡ l → map low (x ∷ l) ≡ x ∷ l
each_low x h e = ap₂ (λ y l. y ∷ l) (low_same x h) e

exact : (fuel : ℕ) (r : Report) → Bounded fuel r → Small r → report_words r ≡ report_numbers r
unfolding report_words report_numbers
exact fuel r b s =
    ap₂ (λ x y. x ++ y)
    (each_low r.outcome (omega (arith, s.outcome)) (each_low r.number (omega (arith, s.number))
    (each_low r.kind (omega (arith, s.kind)) none_low)))
    (ap₂ (λ x y. x ++ y) (all_low r.names (λ i. omega (arith, s.names i)))
    (ap₂ (λ x y. x ++ y)
    (each_low r.count (omega (arith, b.few)) (each_low r.charges (omega (arith, s.charges))
    (each_low r.empty (omega (arith, b.flagged)) (each_low r.left (omega (arith, s.left)) (each_low r.sought (omega (arith, s.sought))
    (each_low r.steps (omega (arith, s.steps)) none_low))))))
    (all_low r.route (λ i. omega (arith, s.route i)))))

-- A report in words loses nothing: they are its numbers.
pub report_exact : (words : List ℕ) (area : ℕ) (q : Question) → report_words (report_of words area q) ≡ report_numbers (report_of words area q)
report_exact words area q = exact q.fuel (report_of words area q) (report_bounded words area q) (report_small words area q)
