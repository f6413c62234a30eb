-- Old names last: what options bit 32 changes of a lookup.
use Prim.Native.Nat.{ℕ}
use mathlib.Core.Path.{◌≡◌, refl, ◌∙◌, ap}
use mathlib.Core.Bool.{Bool, true, false, ◌&&◌}
use Rattle.std.specs.Prelude.{Option, None, Some}
use lib.ListN.{length}
use Rattle.snapshot.specs.Records.{Snapshot, Scope}
use Rattle.hir_def.specs.Finds.{or_first}
use Rattle.hir_def.specs.ItemScope.{is_for, names_of, names_reads, is_fresh, preferred, preferred_reads}
use Rattle.hir_def.specs.declared.Item.{Item}
use Rattle.hir_def.proofs.Found.{reads_all}

module _ (s : Snapshot) (m : ℕ) (item : Item) (p : Scope → Bool) (old : Option Scope) (n : ℕ) where
  -- the bit is clear: the lookup without it
  pub bit_clear : (preferred false s m item p old ≡ old) × (preferred_reads false s m item p n ≡ n)
  unfolding preferred preferred_reads
  bit_clear = (refl, refl)

  -- the bit is set and the scope holds an entry that isn't deprecated and passes: the first such, with the records up to and with it
  pub bit_fresh : (y : Scope) → names_of s m item (is_fresh p) ≡ Some y
      → (preferred true s m item p old ≡ Some y) × (preferred_reads true s m item p n ≡ names_reads s m item (is_fresh p))
  unfolding preferred preferred_reads or_first
  bit_fresh y e = (ap (λ o. or_first o old) e, refl)

  -- it holds none: the lookup without the bit, with all scope records
  pub bit_old : names_of s m item (is_fresh p) ≡ None
      → (preferred true s m item p old ≡ old) × (preferred_reads true s m item p n ≡ length s.scopes)
  unfolding preferred preferred_reads or_first names_of names_reads
  bit_old e = (ap (λ o. or_first o old) e, reads_all _ s.scopes e)

  -- what is found has what either lookup finds
  or_has : (P : Scope → Type 0) (o : Option Scope) (y : Scope) → (o ≡ Some y → P y) → (old ≡ Some y → P y) → or_first o old ≡ Some y → P y
  unfolding or_first
  or_has P None y f g e = g e
  or_has P (Some z) y f g e = f e

  pub preferred_has : (P : Scope → Type 0) (b : Bool) (y : Scope) → (names_of s m item (is_fresh p) ≡ Some y → P y) → (old ≡ Some y → P y)
      → preferred b s m item p old ≡ Some y → P y
  unfolding preferred
  preferred_has P true y f g e = or_has P (names_of s m item (is_fresh p)) y f g e
  preferred_has P false y f g e = g e

-- the test of an entry, as the code joins it
pub for_test : (s : Snapshot) (m : ℕ) (item : Item) (p : Scope → Bool) (y : Scope) {t b : Bool} → t ≡ (b && is_fresh p y) → b ≡ is_for s m item y
    → t ≡ (is_for s m item y && is_fresh p y)
for_test s m item p y e f = e ∙ ap (λ b. b && is_fresh p y) f
