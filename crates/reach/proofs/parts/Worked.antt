-- The reach on the worked snapshot, and on one with paths that mislead, computed.
use Prim.Native.Nat.{ℕ}
use mathlib.Core.Path.{◌≡◌, refl}
use mathlib.Core.Bool.{Bool, true}
use mathlib.Core.List.{List, [], ◌∷◌}
use Prim.Native.String.{String}
use Rattle.snapshot.specs.Lists.{all, eq_list}
use Rattle.check_rules.specs.Worked.{worked}
use Rattle.find_path_spec.specs.Line.{bytes_of}
use Rattle.find_path_spec.proofs.Worked.{passes, named, head, with_block}
use Rattle.reach.specs.declared.parts.Viewer.{Viewer}
use Rattle.reach.specs.parts.Reach.{is_met, new_from, distinct, report_for, column, names_found, added, tallied, tally_all, reach_in, refused_reach}
use Rattle.reach.specs.parts.Reach.{reach_by, reach_unless, reach_of, reach_line}

-- the words of the work area, who asks, and the line
pub record Row : Type 0 where
  pub area : ℕ
  pub viewer : Viewer
  pub line : String

-- module, prefix, options, fuel, limit
abbrev row : ℕ → ℕ → ℕ → ℕ → ℕ → ℕ → String → Row
row a m p o f n l = record { area = a; viewer = record { from = record { 0 = m }; prefix = p; options = o; fuel = f; limit = n }; line = l }

-- the lines are those of the definition; `passes` unfolds the search
pub passes_all : List ℕ → List Row → Bool
unfolding passes is_met new_from distinct report_for column names_found added tallied tally_all reach_in refused_reach reach_by reach_unless reach_of
    reach_line
passes_all words table = all (λ r. eq_list (reach_line (reach_of words r.area r.viewer)) (bytes_of r.line)) table

-- the module `a` and the function `f`
pub cases : List Row
cases =
    row 16384 0 1 0 9 15 "0 1 1 0 0 0 0 0 0 0 0 0 0 0 0 0 0 0 0 0 3"
    -- `self` and `f`
    ∷ row 16384 1 1 0 9 15 "1 1 0 0 0 0 0 0 0 0 0 0 0 0 0 0 0 0 0 0 1"
    -- an empty tank, and a limit that is too small
    ∷ row 16384 0 1 0 0 15 "0 1 0 0 0 0 0 0 0 0 0 0 0 0 0 0 0 0 0 1 1"
    ∷ row 16384 0 1 0 9 1 "0 1 0 0 0 0 0 0 0 0 0 0 0 0 0 0 0 0 1 0 1"
    -- a question's refusals, in their order
    ∷ row 16383 0 3 0 10001 0 "refused 20 0 0"
    ∷ row 16384 0 3 0 10001 0 "refused 21 0 0"
    ∷ row 16384 0 3 0 9 0 "refused 22 0 0"
    ∷ row 16384 0 1 128 9 0 "refused 22 0 0"
    ∷ row 16384 2 1 0 9 0 "refused 46 0 0"
    ∷ row 16384 2 1 0 9 16 "refused 46 0 0"
    ∷ row 16384 2 1 0 9 15 "refused 23 0 0"
    ∷ []

pub worked_reach : passes_all worked cases ≡ true
unfolding passes_all cases
worked_reach = refl

-- the items of the scope records: `a`, both `f`, `E`, `G` and `h`; without options bit 64 and with it
pub read_cases : List Row
read_cases =
    row 16384 0 1 0 9 15 "0 5 0 0 0 0 0 0 0 0 0 0 0 0 0 0 0 0 1 0 5"
    -- `h` is not visible from the root
    ∷ row 16384 0 1 64 9 15 "0 4 0 0 0 0 0 0 0 0 0 0 0 0 0 0 0 1 1 0 4"
    ∷ row 16384 2 1 0 9 15 "0 6 0 0 0 0 0 0 0 0 0 0 0 0 0 0 0 0 0 0 6"
    -- nor from the block, where the root's `f` is hidden
    ∷ row 16384 2 1 64 9 15 "0 4 0 0 0 0 0 0 0 0 0 0 0 0 0 0 0 2 0 0 4"
    ∷ []

pub read_reach : passes_all with_block read_cases ≡ true
unfolding passes_all read_cases with_block named head
read_reach = refl
