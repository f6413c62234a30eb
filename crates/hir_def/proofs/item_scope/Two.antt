-- Fresh entries are fewer.
use mathlib.Core.Path.{◌≡◌, refl}
use mathlib.Core.Bool.{Bool, true, false, ◌&&◌, not, true≢false}
use Rattle.snapshot.specs.Records.{Scope}
use Rattle.hir_def.specs.ItemScope.{is_deprecated, is_fresh}

pub less_fresh : (p q : Scope → Bool) (y : Scope) → (p y && q y) ≡ false → (p y && is_fresh q y) ≡ false
less_fresh p q y e = and_less (p y) (q y) (not (is_deprecated y)) e
  where
    and_less : (a b c : Bool) → (a && b) ≡ false → (a && (b && c)) ≡ false
    and_less true true c e = absurd (true≢false e)
    and_less true false c e = refl
    and_less false b c e = refl
