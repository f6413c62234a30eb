-- Laws of the numbers by which an edit is refused.
use Prim.Native.Nat.{ℕ, zero, suc, ◌+◌, ◌*◌}
use mathlib.Core.Path.{◌≡◌, refl, sym, ◌∙◌, ap, ap₂}
use mathlib.Core.List.{List}
use mathlib.Core.Bool.{Bool, true, false, ◌||◌, not}
use native.Mathlib.Omega.{arith}
use lib.Dec.{eqb, ltb}
use lib.ListN.{length, get_or}
use borrow.Author.Tests.{ltb-true, ltb-false}
use Rattle.snapshot.specs.Lists.{any}
use Rattle.snapshot.specs.Refusals.{entry_refusal, room_refusal}
use Rattle.snapshot.specs.Sizes.{definition_size}
use Rattle.snapshot.specs.Records.{Scope, Snapshot, definition_at}
use Rattle.snapshot.specs.Layouts.{definition_base, maps_of, snap_of}
use Rattle.snapshot.specs.declared.layout.Layout.{Layout}
use Rattle.check_rules.specs.Tests.{counts_of, scope_range, scope_defined, ns_placed}
use Rattle.check_records.specs.record_rules.Stands.{number_of, counts_in}
use Rattle.check_records.proofs.record_rules.Judged.{number_of_lem, ns_same, scope_definition}
use Rattle.check_rules.specs.Verdict.{accept, verdict}
use Rattle.accept.specs.Post.{Reads}
use Rattle.accept.proofs.Accepted.{by_test}
use Rattle.accept.proofs.Reading.{counts_read}
use Rattle.edit_rules.specs.Entries.{entry_of, is_named, entry_place}
use Rattle.edit_rules.specs.Edits.{add_number, has_room, adding, edit_fault}
use Rattle.edit_rules.proofs.scope_edits.Removed.{absent, present}

pub number_entry : (n : ℕ) (there room : Bool) → (n ≡ 0 → ⊥) → n ≡ add_number n there room
unfolding add_number
number_entry zero there room h = absurd (h refl)
number_entry (suc n) there room h = refl

pub number_47 : (n : ℕ) (there room : Bool) → n ≡ 0 → there ≡ true → entry_refusal ≡ add_number n there room
unfolding add_number
number_47 n there room e h = rw (e, h)

pub number_48 : (n : ℕ) (there room : Bool) → n ≡ 0 → there ≡ false → room ≡ false → room_refusal ≡ add_number n there room
unfolding add_number
number_48 n there room e h g = rw (e, h, g)

pub number_0 : (n : ℕ) (there room : Bool) → n ≡ 0 → there ≡ false → room ≡ true → 0 ≡ add_number n there room
unfolding add_number
number_0 n there room e h g = rw (e, h, g)

-- an addition that is not refused passed all its tests
pub record Clean (range defined placed there room : Bool) : Type 0 where
  pub ranged : range ≡ true
  pub known : defined ≡ true
  pub right : placed ≡ true
  pub new : there ≡ false
  pub fits : room ≡ true

pub none_clean : (a b d there room : Bool) → add_number (number_of a b false d true) there room ≡ 0 → Clean a b d there room
unfolding add_number number_of
none_clean false b d there room e = absurd (omega arith)
none_clean true false d there room e = absurd (omega arith)
none_clean true true false there room e = absurd (omega arith)
none_clean true true true true room e = absurd (omega arith)
none_clean true true true false false e = absurd (omega arith)
none_clean true true true false true e = record { ranged = refl; known = refl; right = refl; new = refl; fits = refl }

-- an entry is there exactly where the walk finds its record
pub there_is : (t : Scope → Bool) (W : List ℕ) (u : Snapshot) → verdict W ≡ accept u → any t u.scopes ≡ ltb (entry_place t W) (length W)
there_is t W u acc =
    by_test (ltb (entry_place t W) (length W))
    (λ c. (present t W u acc (ltb-true (entry_place t W) (length W) c)).there ∙ sym c)
    (λ c. absent t W u acc (ltb-false (entry_place t W) (length W) c) ∙ sym c)

-- the tests of an entry, on the words of an accepted snapshot
pub entry_judged : (W A : List ℕ) (l : Layout) (E : List ℕ) {n ns d : ℕ} {a b p : Bool} → n ≡ number_of a b false p true
    → a ≡ scope_range (entry_of E)
    → b ≡ scope_defined (counts_in l) (entry_of E) → ns ≡ get_or E 1 0 → d ≡ get_or E 3 0
    → p ≡ (not (eqb ns 2) || eqb (definition_at W (definition_base l + definition_size * d)).kind 5)
    → n ≡ number_of (scope_range (entry_of E)) (scope_defined (counts_of (snap_of W A l)) (entry_of E)) false
    (ns_placed (snap_of W A l) (entry_of E).ns (entry_of E).definition) true
entry_judged W A l E {a = a} {b = b} {p = p} j ea eb en ed ep =
    number_of_lem a b false p true (scope_range (entry_of E)) (scope_defined (counts_of (snap_of W A l)) (entry_of E)) false
    (ns_placed (snap_of W A l) (entry_of E).ns (entry_of E).definition) true j ea
    (eb ∙ ap (λ m. scope_defined m (entry_of E)) (sym (counts_read W A l)))
    (λ h. refl)
    (λ h. ep ∙ ap₂ (λ m f. not (eqb m 2) || eqb (definition_at W (definition_base l + definition_size * f)).kind 5) en ed
    ∙ ns_same W A l (maps_of W A l.maps) (get_or E 1 0) (get_or E 3 0) (scope_definition (counts_in l) (entry_of E) (sym eb ∙ h)))
    refl

-- the number of an addition
pub add_faulted : (W A : List ℕ) (l : Layout) (E : List ℕ) (slice : ℕ) → Reads W A l → {n k at o ns name : ℕ}
    → n ≡ add_number k (ltb at (length W)) (has_room (length W) slice)
    → k ≡ number_of (scope_range (entry_of E)) (scope_defined (counts_of (snap_of W A l)) (entry_of E)) false
    (ns_placed (snap_of W A l) (entry_of E).ns (entry_of E).definition) true
    → at ≡ entry_place (is_named o ns name) W → o ≡ get_or E 0 0 → ns ≡ get_or E 1 0 → name ≡ get_or E 2 0
    → n ≡ edit_fault (snap_of W A l) (length W) slice (adding (entry_of E))
unfolding edit_fault
add_faulted W A l E slice r {n} {k} {at} {o} {ns} {name} e f g eo es en =
    let t : Scope → Bool = is_named (get_or E 0 0) (get_or E 1 0) (get_or E 2 0) in
    let p : at ≡ entry_place t W =
    g ∙ ap (λ x. entry_place (is_named x ns name) W) eo ∙ ap (λ x. entry_place (is_named (get_or E 0 0) x name) W) es
    ∙ ap (λ x. entry_place (is_named (get_or E 0 0) (get_or E 1 0) x) W) en in
    let q : ltb at (length W) ≡ any t (snap_of W A l).scopes = ap (λ x. ltb x (length W)) p ∙ sym (there_is t W (snap_of W A l) r.same) in
    e ∙ ap₂ (λ x y. add_number x y (has_room (length W) slice)) f q
