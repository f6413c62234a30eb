-- Bytes that are no words, computed: an edit of the definition is told by these rows first.
use mathlib.Core.Path.{◌≡◌, refl}
use mathlib.Core.List.{[], ◌∷◌, map}
use lib.ListN.{replicate}
use Rattle.check_rules.specs.Verdict.{refuse}
use Rattle.check_snapshot.specs.Verdict.{verdict_of}

-- a byte too many, also where there is a rest; a rest
pub bytes : map verdict_of (replicate 65540 0 ∷ replicate 65537 0 ∷ replicate 5 0 ∷ []) ≡ refuse 40 16384 ∷ refuse 40 16384 ∷ refuse 41 1 ∷ []
unfolding verdict_of
bytes = refl
