-- `Visibility::is_visible_from` of visibility.rs.
use Rattle.std.specs.Prelude.{ℕ, zero, suc, Bool, true, false, ◌||◌, ◌&&◌, eqb}
use Rattle.snapshot.specs.Records.{Snapshot, Scope}
use Rattle.module_tree.specs.rules.Modules.{map_no, crate_of, block_of, containing}

-- Steps go from a module to the number +1 of the next, 0 at the end. The numbers fall, so t steps are enough from t.
unfoldable pub last_or : (ℕ → ℕ) → ℕ → ℕ → ℕ
last_or rec t zero = t
last_or rec t (suc b) = rec b

unfoldable pub last_to : (ℕ → ℕ) → ℕ → ℕ → ℕ
last_to step zero t = t
last_to step (suc d) t = last_or (last_to step d) t (step t)

-- where the steps from t end
unfoldable pub last : (ℕ → ℕ) → ℕ → ℕ
last step t = last_to step t t

unfoldable pub met_or : (ℕ → Bool) → ℕ → Bool
met_or rec zero = false
met_or rec (suc w) = rec w

unfoldable pub met_to : (ℕ → ℕ) → ℕ → ℕ → ℕ → Bool
met_to step zero t v = eqb v t
met_to step (suc d) t v = eqb v t || met_or (met_to step d t) (step v)

-- the steps from v meet t
unfoldable pub met : (ℕ → ℕ) → ℕ → ℕ → Bool
met step v t = met_to step v t v

unfoldable pub unless : Bool → ℕ → ℕ
unless true b = 0
unless false b = b

-- The target's step, for a viewer of the map k: the block's parent; none in the viewer's map, none in a crate's own map.
unfoldable pub climb_step : Snapshot → ℕ → ℕ → ℕ
climb_step s k t = unless (eqb (map_no s t) k) (block_of s t)

unfoldable pub climb : Snapshot → ℕ → ℕ → ℕ
climb s k t = last (climb_step s k) t

-- what is visible in the module t is visible from the module v
unfoldable pub in_module : Snapshot → ℕ → ℕ → Bool
in_module s v t = eqb v t || (eqb (crate_of s v) (crate_of s t) && met (containing s) v (climb s (map_no s v) t))

-- 0 public, 1 crate, 2 and 3 module, with its number; seen from the module v
unfoldable pub is_visible_from : Snapshot → ℕ → ℕ → ℕ → Bool
is_visible_from s zero n v = true
is_visible_from s (suc zero) n v = eqb (crate_of s v) n
is_visible_from s (suc (suc k)) n v = in_module s v n

abbrev pub sees : Snapshot → ℕ → Scope → Bool
sees s v e = is_visible_from s e.visibility e.number v
