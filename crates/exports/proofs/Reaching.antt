-- The reach of a module and the work area.
use Prim.Native.Nat.{ℕ}
use mathlib.Core.Path.{◌≡◌, sym, ◌∙◌, ap}
use mathlib.Core.List.{List}
use lib.ListN.{length}
use Rattle.reach.specs.declared.parts.Viewer.{Viewer}
use Rattle.reach.specs.parts.Reach.{Reach, reach_of}
use Rattle.reach.specs.unchecked.Reaches.{Reaches}
use Rattle.exports.specs.Reaches.{ReachesIn}

pub reached : (W A₀ A : List ℕ) (v u : Viewer) {r t : Reach} → u ≡ v → Reaches W A₀ u A r → r ≡ t → ReachesIn W A₀ v A t.counts t.number
reached W A₀ A v u {r} {t} e k p =
    let q : t ≡ reach_of W (length A₀) v = sym p ∙ k.reach ∙ ap (reach_of W (length A₀)) e in
    record { number = ap (λ x. x.number) q; told = ap (λ x. x.counts) q; area = k.area }
