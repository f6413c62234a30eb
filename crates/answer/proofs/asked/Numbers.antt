-- Words are never refused by the number 0.
use Prim.Native.Nat.{ℕ, ◌<◌}
use mathlib.Core.Path.{◌≡◌}
use mathlib.Core.List.{List}
use mathlib.Core.Bool.{Bool, true, false}
use native.Mathlib.Omega.{arith}
use lib.Dec.{ltb}
use Rattle.snapshot.specs.Limits.{area_limit}
use Rattle.snapshot.specs.Refusals.{area_refusal}
use Rattle.check_rules.specs.Verdict.{Verdict, refuse, verdict}
use Rattle.accept.specs.Post.{check_of}
use Rattle.accept.proofs.Refused.{verdict_number}

-- a refusal has a number other than 0
pub refusal_positive : (m : ℕ) (W : List ℕ) (n at : ℕ) → check_of m W ≡ refuse n at → 0 < n
unfolding check_of
refusal_positive m W n at e = by (ltb m area_limit) e
  where
    by : (b : Bool) → ◌≡◌ {A = Verdict} (elim b [ true ↦ refuse area_refusal 0 | false ↦ verdict W ]) (refuse n at) → 0 < n
    by true f = let z : area_refusal ≡ n = cc in omega arith
    by false f = let q = verdict_number W n at f in omega arith
