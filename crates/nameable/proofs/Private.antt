-- An entry is seen where privacy holds, its own and its declaration's.
use Prim.Native.Nat.{ℕ, zero, suc, ◌≤◌, ◌<◌}
use native.Mathlib.Omega.{arith}
use mathlib.Core.Path.{◌≡◌, refl}
use mathlib.Core.List.{List, Memᴰ}
use mathlib.Core.Bool.{Bool, true, ◌&&◌}
use Rattle.std.specs.Prelude.{Option, None, Some}
use mathlib.Core.Logic.{◌↔◌}
use borrow.Author.Tests.{eqb-true, eq-eqb}
use lib.ListN.{length}
use Rattle.snapshot.specs.Records.{Snapshot, Scope}
use Rattle.check_rules.specs.Tests.{counts_of}
use Rattle.accept.specs.Valid.{ScopeFits}
use Rattle.check_rules.specs.Verdict.{accept, verdict}
use Rattle.accept.proofs.Bools.{and_two}
use Rattle.accept.proofs.Valid.{accepted_valid}
use Rattle.module_tree.specs.rules.Modules.{crate_of}
use Rattle.module_tree.specs.Privacy.{Privacy}
use Rattle.module_tree.specs.Differs.{Known}
use Rattle.module_tree.proofs.Privately.{privately_is}
use Rattle.hir_def.proofs.Found.{each_first}
use Rattle.hir_def.proofs.Every.{each_in}
use Rattle.nameable.specs.Seen.{holds, holds_in, is_declaration, declared_ns, declared_as, declared_in, declaration_in, declaration_of}
use Rattle.nameable.specs.Seen.{declaration_holds, both_hold, counts, seen, Holds, DeclarationHolds, BothHold, Seen}
use Rattle.nameable.proofs.Lists.{none_some}

both : {A B : Type 0} (a b : Bool) → (a ≡ true) ↔ A → (b ≡ true) ↔ B → (a && b ≡ true) ↔ (A × B)
both a b f g = (λ e. let h = and_two a b e in (f.0 h.0, g.0 h.1), λ h. rw (f.1 h.0, g.1 h.1))

module _ (W : List ℕ) (s : Snapshot) (accepted : verdict W ≡ accept s) where
  known : (k n : ℕ) → (k ≡ 0 → n ≡ 0) → (2 ≤ k → n < length s.modules) → Known s k n
  known zero n f g = tt
  known (suc zero) n f g = tt
  known (suc (suc k)) n f g = g (omega arith)

  module _ (v : ℕ) (r : v < length s.modules) where
    pub holds_is : (k n : ℕ) → Known s k n → (holds s k n v ≡ true) ↔ Privacy s k n v
    unfolding holds
    holds_is zero n h = (λ e. tt, λ p. refl)
    holds_is (suc zero) n h = (eqb-true (crate_of s v) n, eq-eqb (crate_of s v) n)
    holds_is (suc (suc k)) n h = privately_is W s accepted v n r h

    entry_is : (e : Scope) → ScopeFits (counts_of s) e → (holds_in s v e ≡ true) ↔ Holds s v e
    entry_is e f = holds_is e.visibility e.number (known e.visibility e.number f.public f.inside)

    declaration_is : (o : Option Scope) → ((e : Scope) → o ≡ Some e → ScopeFits (counts_of s) e)
        → (declaration_holds s v o ≡ true) ↔ DeclarationHolds s v o
    unfolding declaration_holds
    declaration_is None f = (λ e. tt, λ p. refl)
    declaration_is (Some e) f = entry_is e (f e refl)

  declared_fits : (ns d m : ℕ) (e : Scope) → declaration_in s ns d m ≡ Some e → ScopeFits (counts_of s) e
  unfolding declaration_in
  declared_fits ns d zero e h = absurd (none_some h)
  declared_fits ns d (suc m) e h = each_first (is_declaration m ns d) e (accepted_valid W s accepted).ranges.scopes h

  module _ (e : Scope) (listed : Memᴰ e s.scopes) where
    fits : ScopeFits (counts_of s) e
    fits = each_in (accepted_valid W s accepted).ranges.scopes listed

    both_hold_lem : (v : ℕ) → v < length s.modules → (both_hold s v e ≡ true) ↔ BothHold s v e
    unfolding both_hold declaration_of
    both_hold_lem v r =
        let f = both (holds_in s v e) (declaration_holds s v (declaration_of s e)) (entry_is v r e fits)
        (declaration_is v r (declaration_of s e)
        (λ x h. declared_fits (declared_ns s e.ns e.definition) (declared_as s e.definition) (declared_in s e.definition) x h)) in
        (λ h. let g = f.0 h in record { own = g.0; declared = g.1 }, λ h. f.1 (h.own, h.declared))

    -- The test of a snapshot's entry is privacy.
    pub seen_is : (from : ℕ) → from < length s.modules → (seen s from e ≡ true) ↔ Seen s from e
    unfolding seen counts
    seen_is from r =
        let f = both (both_hold s e.owner e) (both_hold s from e) (both_hold_lem e.owner fits.owner) (both_hold_lem from r) in
        (λ h. let g = f.0 h in record { counts = g.0; viewer = g.1 }, λ h. f.1 (h.counts, h.viewer))
