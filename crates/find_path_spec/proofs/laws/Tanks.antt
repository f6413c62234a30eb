-- No search changes what the tank holds and has given, taken together.
use mathlib.Core.Path.{◌≡◌, refl}
use Prim.Native.Nat.{ℕ, zero, suc, ◌+◌}
use native.Mathlib.Omega.{arith}
use mathlib.Core.Bool.{Bool, true, false}
use Rattle.snapshot.specs.Records.{Snapshot}
use Rattle.hir_def.specs.declared.Item.{Item}
use Rattle.find_path_spec.specs.declared.Tank.{Tank}
use Rattle.find_path_spec.specs.declared.FindPathCtx.{FindPathCtx}
use Rattle.find_path_spec.specs.Meters.{drained, draw, from_tank}
use Rattle.find_path_spec.specs.Search.{search_module, search_item}
use Rattle.find_path_spec.proofs.laws.Keeps.{left_by, module_search_keeps, item_to_keeps}

abbrev pub sum : Tank → ℕ
sum t = t.fuel + t.spent

abbrev Sum : ℕ → Tank → Type 0
Sum n t = sum t ≡ n

drained_sum : (left sought : ℕ) (t : Tank) (e : Bool) → sum (drained left sought t e) ≡ t.spent
unfolding drained
drained_sum left sought t true = omega arith
drained_sum left sought t false = omega arith

draw_sum : (n left sought : ℕ) (t : Tank) (fuel : ℕ) → fuel + t.spent ≡ n → Sum n (left_by (draw left sought t fuel))
unfolding draw
draw_sum n left sought t zero h = omega (arith, drained_sum left sought t t.empty)
draw_sum n left sought t (suc fuel) h = omega arith

sum_stays : (n left sought : ℕ) (t : Tank) → Sum n t → Sum n (left_by (from_tank left sought t))
unfolding from_tank
sum_stays n left sought t h = draw_sum n left sought t t.fuel h

module _ (s : Snapshot) (x : FindPathCtx) where
  pub module_sum : (left m : ℕ) (t : Tank) → sum (search_module Tank from_tank s x left m t).meter ≡ sum t
  module_sum left m t = module_search_keeps Tank from_tank s (Sum (sum t)) (sum_stays (sum t)) x left m t refl

  pub item_sum : (item : Item) (t : Tank) → sum (search_item Tank from_tank s x item t).meter ≡ sum t
  unfolding search_item
  item_sum item t = item_to_keeps Tank from_tank s (Sum (sum t)) (sum_stays (sum t)) x 2 item t refl
