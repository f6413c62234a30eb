-- A test of the levels, one after the other: P p b says that the test may answer b of the level whose run is at p.
use Rattle.std.specs.Prelude.{ℕ, zero, suc, ◌-◌, ◌≡◌, List, Bool, true, false, get_or}

-- it ends at a level that passes, with the answer true
unfoldable pub ends_at : Bool → Type 0 → Bool → Type 0
ends_at true rest r = r ≡ true
ends_at false rest r = rest

-- whether one of the d levels from p on passes
unfoldable pub AnyBy : (ℕ → Bool → Type 0) → List ℕ → ℕ → ℕ → Bool → Type 0
AnyBy P A p zero r = r ≡ false
AnyBy P A p (suc d) r = (b : Bool) × P p b × ends_at b (AnyBy P A (get_or A (p - 2) 0) d r) r
