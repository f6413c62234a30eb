-- From where a visibility is visible, by the two numbers that it has in an entry.
use Prim.Native.Nat.{ℕ, zero, suc, ◌<◌, ◌≤◌}
use mathlib.Core.Path.{◌≡◌, refl}
use native.Mathlib.Omega.{arith}
use Rattle.snapshot.specs.Records.{Snapshot}
use Rattle.snapshot.specs.Visibilities.{visibility_kind, visibility_number, visibility_of}
use Rattle.snapshot.proofs.KindLaws.{other_visibility}
use Rattle.module_tree.specs.rules.Visibility.{is_visible_from}

pub visible_by : (s : Snapshot) (k n v : ℕ)
    → is_visible_from s (visibility_kind (visibility_of k n)) (visibility_number (visibility_of k n)) v ≡ is_visible_from s k n v
unfolding is_visible_from
visible_by s zero n v = refl
visible_by s (suc zero) n v = refl
visible_by s (suc (suc zero)) n v = refl
visible_by s (suc (suc (suc zero))) n v = refl
visible_by s (suc (suc (suc (suc k)))) n v = rw (other_visibility k n)

pub number_within : (k n : ℕ) {m : ℕ} → (2 ≤ k → n < m) → 2 ≤ visibility_kind (visibility_of k n) → visibility_number (visibility_of k n) < m
number_within zero n f h = omega (arith, h)
number_within (suc zero) n f h = omega (arith, h)
number_within (suc (suc zero)) n f h = f h
number_within (suc (suc (suc zero))) n f h = f (omega arith)
number_within (suc (suc (suc (suc k)))) n f h = rw (other_visibility k n) (f (omega arith))
