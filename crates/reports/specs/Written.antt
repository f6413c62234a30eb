-- A report in words: outcome, refusal number, path kind, sixteen names, their count, charges, empty; the length left and the module looked
-- for, +1, of the first charge that found the tank empty; the number of steps, and seventeen of them.
use Rattle.std.specs.Prelude.{ℕ, ◌%◌, ◌≡◌, List, [], ◌∷◌, ◌++◌, map, Bool, true, false, ltb, leb, length, drop}
use Rattle.find_path_spec.specs.declared.Report.{Report}

-- words of a report
abbrev pub report_size : ℕ
report_size = 42

-- a word holds the lowest 32 bits of a number
abbrev pub low : ℕ → ℕ
low x = x % 4294967296

unfoldable pub report_words : Report → List ℕ
report_words r =
    map low (r.outcome ∷ r.number ∷ r.kind ∷ [])
    ++ (map low r.names ++ (map low (r.count ∷ r.charges ∷ r.empty ∷ r.left ∷ r.sought ∷ r.steps ∷ []) ++ map low r.route))

-- the numbers of a report, whole
unfoldable pub report_numbers : Report → List ℕ
report_numbers r =
    (r.outcome ∷ r.number ∷ r.kind ∷ []) ++ (r.names ++ ((r.count ∷ r.charges ∷ r.empty ∷ r.left ∷ r.sought ∷ r.steps ∷ []) ++ r.route))

-- a report at the front; the words past it stay, and fewer words than a report has stay all
unfoldable pub written_to : Report → List ℕ → List ℕ
written_to r out = elim (ltb (length out) report_size) [ true ↦ out | false ↦ report_words r ++ drop report_size out ]

-- b says whether the report was written
pub record Written (r : Report) (old new : List ℕ) (b : Bool) : Type 0 where
  pub words : new ≡ written_to r old
  pub done : b ≡ leb report_size (length old)
