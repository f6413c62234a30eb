-- Laws of the argument words, and those of the tests that are passed on to the crates above.
use Prim.Native.Nat.{ℕ, suc, ◌+◌, ◌-◌, ◌≤◌, ◌<◌}
use mathlib.Core.Path.{◌≡◌, ap}
use mathlib.Core.List.{List}
use mathlib.Core.Bool.{Bool, true, false, ◌&&◌}
use native.Mathlib.Omega.{arith}
use lib.ListN.{length, get_or}
use lib.Dec.{eqb, ltb}
use borrow.Author.Tests.{eq-eqb, ne_eqb, lt-ltb, le-ltb}
use Rattle.snapshot.specs.Words.{kind_of}
use Rattle.check_rules.specs.Verdict.{arguments_from}
pub use Rattle.check_records.proofs.record_rules.Laws.{or_yes, or_no, and_no, and_yes}

-- a loop over argument words
module _ (W : List ℕ) (whole : Bool) (i left : ℕ) (e : whole ≡ arguments_from W i left) where
  arguments_next : 0 < left
      → arguments_from W i left ≡ (ltb i (length W) && eqb (kind_of (get_or W i 0)) 0 && arguments_from W (i + 1) (left - 1))
  unfolding arguments_from
  arguments_next h = let p : left ≡ suc (left - 1) = omega arith in ap (arguments_from W i) p

  pub arguments_short : 0 < left → length W ≤ i → false ≡ whole
  arguments_short h g = rw (e, arguments_next h, le-ltb _ _ g)

  pub arguments_other : 0 < left → i < length W → (kind_of (get_or W i 0) ≡ 0 → ⊥) → false ≡ whole
  arguments_other h g k = rw (e, arguments_next h, lt-ltb _ _ g, ne_eqb _ _ k)

  pub arguments_go : 0 < left → i < length W → kind_of (get_or W i 0) ≡ 0 → whole ≡ arguments_from W (i + 1) (left - 1)
  arguments_go h g k = rw (e, arguments_next h, lt-ltb _ _ g, eq-eqb _ _ k)

  pub arguments_end : left ≤ 0 → true ≡ whole
  unfolding arguments_from
  arguments_end h = let z : left ≡ 0 = omega arith in rw (e, z)
