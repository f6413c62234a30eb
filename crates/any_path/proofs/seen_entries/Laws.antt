-- Privacy and declarations, case by case.
use Prim.Native.Nat.{ℕ, zero, suc, ◌<◌}
use mathlib.Core.Path.{◌≡◌, refl, sym}
use mathlib.Core.List.{List}
use mathlib.Core.Bool.{Bool, true, false, ◌&&◌, and_assoc}
use Rattle.std.specs.Prelude.{None, Some}
use native.Mathlib.Omega.{arith}
use borrow.Author.Tests.{eq-eqb, ne_eqb}
use lib.Dec.{eqb}
use lib.ListN.{length}
use Rattle.snapshot.specs.Visibilities.{visibility_kind, visibility_number, visibility_of}
use Rattle.snapshot.proofs.KindLaws.{other_visibility}
use Rattle.snapshot.specs.Records.{Snapshot, Scope}
use Rattle.snapshot.specs.Layouts.{snap_of}
use Rattle.snapshot.specs.declared.layout.Layout.{Layout}
use Rattle.accept.specs.Post.{Reads}
use Rattle.check_records.specs.record_rules.Stands.{counts_in}
use Rattle.accept.specs.Valid.{Tree, Valid, ScopeFits}
use Rattle.accept.proofs.Reading.{ranges_read}
use Rattle.accept.proofs.Valid.{accepted_valid}
use Rattle.module_tree.specs.rules.Modules.{crate_of, parent_of}
use Rattle.module_tree.specs.rules.Privately.{block_step, module_around}
use Rattle.module_tree.proofs.Laws.{Falls}
use Rattle.module_tree.proofs.Reading.{length_modules}
use Rattle.module_tree.proofs.Ways.{last_end, last_on}
use Rattle.module_tree.proofs.Privately as privately
use Rattle.hir_def.specs.Items.{types, module_kind, variant_kind, definition_of, home_by}
use Rattle.hir_def.specs.ItemScope.{is_declared}
use Rattle.hir_def.proofs.Found.{each_first}
use Rattle.nameable.specs.Seen.{holds, holds_in, is_declaration, declared_ns, declared_as, declared_in, declaration_in, declaration_of}
use Rattle.nameable.specs.Seen.{declaration_holds}
use Rattle.nameable.specs.Seen.{both_hold, counts, seen}

pub and_so : (a b : Bool) → a ≡ true → b ≡ (a && b)
and_so a b e = rw e

pub and_no : (a b : Bool) → a ≡ false → false ≡ (a && b)
and_no a b e = rw e

module _ (s : Snapshot) (ok : Tree s.maps s.modules) where
  pub step_falls : Falls (block_step s) (length s.modules)
  step_falls = privately.step_falls s ok

  pub around_here : (t : ℕ) → t < length s.modules → block_step s t ≡ 0 → t ≡ module_around s t
  unfolding module_around
  around_here t r z = sym (last_end (block_step s) (length s.modules) step_falls t r z)

  pub around_on : (t b : ℕ) → t < length s.modules → block_step s t ≡ suc b → module_around s t ≡ module_around s b
  unfolding module_around
  around_on t b r z = last_on (block_step s) (length s.modules) step_falls t b r z

-- those of an accepted tree
pub step_down : {W A : List ℕ} {l : Layout} → Reads W A l → Falls (block_step (snap_of W A l)) l.modules
step_down {W} {A} {l} r v w i = step_falls (snap_of W A l) (accepted_valid W (snap_of W A l) r.same).tree v w (rw (length_modules W A l) i)

module _ (s : Snapshot) (k n v : ℕ) where
  pub holds_public : k ≡ 0 → true ≡ holds s k n v
  unfolding holds
  holds_public e = rw e

  pub holds_crate : k ≡ 1 → eqb (crate_of s v) n ≡ holds s k n v
  unfolding holds
  holds_crate e = rw e

-- a visibility by its two numbers
pub holds_by : (s : Snapshot) (k n v : ℕ)
    → holds s (visibility_kind (visibility_of k n)) (visibility_number (visibility_of k n)) v ≡ holds s k n v
unfolding holds
holds_by s zero n v = refl
holds_by s (suc zero) n v = refl
holds_by s (suc (suc zero)) n v = refl
holds_by s (suc (suc (suc zero))) n v = refl
holds_by s (suc (suc (suc (suc k)))) n v = rw (other_visibility k n)

module _ (s : Snapshot) (d : ℕ) where
  pub ns_variant : (ns : ℕ) → (definition_of s d).kind ≡ variant_kind → types ≡ declared_ns s ns d
  unfolding declared_ns
  ns_variant ns e = rw (declared_ns, eq-eqb _ _ e)

  pub ns_other : (ns : ℕ) → ((definition_of s d).kind ≡ variant_kind → ⊥) → ns ≡ declared_ns s ns d
  unfolding declared_ns
  ns_other ns e = rw (declared_ns, ne_eqb _ _ e)

  pub as_variant : (definition_of s d).kind ≡ variant_kind → (definition_of s d).first ≡ declared_as s d
  unfolding declared_as
  as_variant e = rw (declared_as, eq-eqb _ _ e)

  pub as_other : ((definition_of s d).kind ≡ variant_kind → ⊥) → d ≡ declared_as s d
  unfolding declared_as
  as_other e = rw (declared_as, ne_eqb _ _ e)

  pub in_module_lem : (definition_of s d).kind ≡ module_kind → parent_of s (definition_of s d).first ≡ declared_in s d
  unfolding declared_in
  in_module_lem e = rw (declared_in, eq-eqb _ _ e)

  pub in_home : ((definition_of s d).kind ≡ module_kind → ⊥) → home_by s (definition_of s d).kind (definition_of s d).first ≡ declared_in s d
  unfolding declared_in
  in_home e = rw (declared_in, ne_eqb _ _ e)

module _ (m ns d : ℕ) (e : Scope) where
  pub declaration_not : (e.owner ≡ m → ⊥) → false ≡ is_declaration m ns d e
  declaration_not h = rw (ne_eqb e.owner m h)

  pub declaration_so : e.owner ≡ m → (a b : ℕ) (t : Bool) → a ≡ e.ns → b ≡ e.definition → t ≡ is_declared e
      → (eqb a ns && eqb b d) && t ≡ is_declaration m ns d e
  declaration_so h a b t f g k = rw (eq-eqb e.owner m h, f, g, k) (and_assoc (eqb e.ns ns) (eqb e.definition d) (is_declared e))

module _ (s : Snapshot) (e : Scope) where
  -- no module declares it
  pub declared_nowhere : declared_in s e.definition ≡ 0 → None ≡ declaration_of s e
  unfolding declaration_of declaration_in
  declared_nowhere z = rw z

  pub declared_there : (m ns d : ℕ) → declared_in s e.definition ≡ suc m → ns ≡ declared_ns s e.ns e.definition
      → d ≡ declared_as s e.definition
      → declaration_in s ns d (suc m) ≡ declaration_of s e
  unfolding declaration_of
  declared_there m ns d z a b = rw (z, a, b)

  module _ (v : ℕ) where
    pub both_not : holds_in s v e ≡ false → false ≡ both_hold s v e
    unfolding both_hold
    both_not h = rw (both_hold, h)

    pub both_alone : holds_in s v e ≡ true → declaration_of s e ≡ None → true ≡ both_hold s v e
    unfolding both_hold declaration_holds
    both_alone h z = rw (both_hold, h, z)

    pub both_declared : (x : Scope) → holds_in s v e ≡ true → declaration_of s e ≡ Some x → holds_in s v x ≡ both_hold s v e
    unfolding both_hold declaration_holds
    both_declared x h z = rw (both_hold, h, z)

  pub seen_not : (from : ℕ) → both_hold s e.owner e ≡ false → false ≡ seen s from e
  unfolding seen counts
  seen_not from h = rw (seen, counts, h)

  pub seen_so : (from : ℕ) → both_hold s e.owner e ≡ true → both_hold s from e ≡ seen s from e
  unfolding seen counts
  seen_so from h = rw (seen, counts, h)

-- the declaration is a record of the snapshot

in_fits : (W A : List ℕ) (l : Layout) → Valid (snap_of W A l) → (ns d m : ℕ) (x : Scope) → declaration_in (snap_of W A l) ns d m ≡ Some x
    → ScopeFits (counts_in l) x
unfolding declaration_in
in_fits W A l v ns d zero x h = let z : ◌≡◌ {A = ℕ} 0 1 = cc in absurd (omega arith)
in_fits W A l v ns d (suc m) x h = each_first (is_declaration m ns d) x (ranges_read W A l v).scopes h

pub declared_fits : (W A : List ℕ) (l : Layout) → Reads W A l → (e x : Scope) → declaration_of (snap_of W A l) e ≡ Some x → ScopeFits (counts_in l) x
unfolding declaration_of
declared_fits W A l r e x h =
    let s = snap_of W A l in
    in_fits W A l (accepted_valid W s r.same) (declared_ns s e.ns e.definition) (declared_as s e.definition)
    (declared_in s e.definition) x h
