-- A target that is written, or only counted for.
use Rattle.std.specs.Prelude.{ℕ, List, Bool, true, false}
use Rattle.std.proofs.lemmas.List.Edits.{sets}

-- the target with words stored from a place on, or as it was
unfoldable pub written : Bool → ℕ → List ℕ → List ℕ → List ℕ
written true at ws T = sets T at ws
written false at ws T = T
