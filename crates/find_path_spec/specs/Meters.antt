-- A meter is a state and what a charge does to it. Here the two meters: the tank, and the count without a limit.
use Rattle.std.specs.Prelude.{ℕ, zero, suc, ◌+◌, Bool, true, false, List, [], ◌∷◌, ◌++◌}
use Rattle.find_path_spec.specs.declared.Tank.{Tank}

-- A charge goes on with the body, or stops.
pub data Charged (M : Type 0) : Type 0 where
  go stop : M → Charged M

-- A charge is told the length left, and the module that is looked for, +1, or 0 for the question's own item or its enum.
abbrev pub Charge : Type 0 → Type 0
Charge M = ℕ → ℕ → M → Charged M

-- the tank that is found empty: the first time, with what the charge was told
unfoldable pub drained : ℕ → ℕ → Tank → Bool → Tank
drained left sought t true = record { fuel = 0; spent = t.spent; empty = true; left = t.left; sought = t.sought }
drained left sought t false = record { fuel = 0; spent = t.spent; empty = true; left = left; sought = sought }

-- The tank: a charge takes one from the fuel and is counted; at fuel 0 it stops, and the tank is found empty.
unfoldable pub draw : ℕ → ℕ → Tank → ℕ → Charged Tank
draw left sought t zero = stop (drained left sought t t.empty)
draw left sought t (suc fuel) = go (record { fuel = fuel; spent = t.spent + 1; empty = t.empty; left = t.left; sought = t.sought })

unfoldable pub from_tank : Charge Tank
from_tank left sought t = draw left sought t t.fuel

-- a tank that holds the fuel, before any charge
unfoldable pub filled : ℕ → Tank
filled fuel = record { fuel = fuel; spent = 0; empty = false; left = 0; sought = 0 }

-- The count: a charge adds one, and always goes on.
unfoldable pub counted : Charge ℕ
counted left sought n = go (n + 1)

-- what a charge was told
pub record Spot : Type 0 where
  pub left : ℕ
  pub sought : ℕ

-- The list of charges: like the count, and each is kept.
unfoldable pub listed : Charge (List Spot)
listed left sought ps = go (ps ++ (record { left = left; sought = sought } ∷ []))
