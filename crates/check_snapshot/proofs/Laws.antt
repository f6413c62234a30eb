-- Laws of the verdict on bytes, and of the text.
use Prim.Native.Nat.{ℕ, ◌+◌, ◌*◌, ◌/◌, ◌%◌, ◌≤◌, ◌<◌, min}
use mathlib.Core.Path.{◌≡◌, refl, sym, ◌∙◌, ap, subst}
use mathlib.Core.List.{List, ◌++◌}
use mathlib.Core.Bool.{true, false, and-false}
use native.Mathlib.Omega.{arith}
use borrow.Author.Tests.{eq-eqb, ne_eqb, lt-ltb, le-ltb, le-leb, lt-leb}
use lib.Dec.{eqb}
use lib.ListN.{length, get_or, take, length-take}
use lib.Seq.{length-take-le}
use Rattle.std.specs.Counts.{IsPrefixLen}
use Rattle.snapshot.specs.Limits.{word_limit, area_limit, input_limit}
use Rattle.snapshot.specs.Refusals.{form_refusal, bytes_refusal, rest_refusal, refusal_number}
use Rattle.snapshot.specs.declared.refusal.Refusal.{Refusal}
use Rattle.snapshot.specs.declared.refusal.Refusal.TheVariants.{Area, Fuel, Field, Unknown, Macro, Words, Form, Range, Undefined, Repeated, Place}
use Rattle.snapshot.specs.declared.refusal.Refusal.TheVariants.{Count, Bytes, Rest, Question, Edition, Batch, Target, Limit, Entry, Room, Window}
use Rattle.snapshot.specs.declared.refusal.Refusal.TheVariants.{Waits, Join}
use Rattle.snapshot.specs.contracts.refusal.Refusal.{the_type}
use denote.Enum.Bare.{sameb}
use Rattle.snapshot.specs.Layouts.{snap_of}
use Rattle.snapshot.specs.declared.layout.Layout.{Layout}
use Rattle.snapshot.proofs.Laws.{length_rows}
use Rattle.check_rules.specs.Verdict.{refuse, accept, verdict}
use Rattle.accept.specs.Post.{Checked, check_of, outcome}
use Rattle.printing.specs.Output.{Put, bytes_of}
use Rattle.check_snapshot.specs.Verdict.{words_of, verdict_of}
use Rattle.printing.specs.wording.Text.{refusal, asked_there, line, first_lines, last_lines}
use Rattle.check_snapshot.specs.Text.{asks, asks_at, refused_text, text_of}

-- the verdict

pub verdict_long : (B : List ℕ) → input_limit < length B → refuse bytes_refusal word_limit ≡ verdict_of B
unfolding verdict_of
verdict_long B h = rw (verdict_of, lt-leb _ _ h)

pub verdict_rest : (B : List ℕ) → length B ≤ input_limit → (length B % 4 ≡ 0 → ⊥) → refuse rest_refusal (length B / 4) ≡ verdict_of B
unfolding verdict_of
verdict_rest B h p = rw (verdict_of, le-leb _ _ h, ne_eqb _ _ p)

verdict_whole : (B : List ℕ) → length B ≤ input_limit → length B % 4 ≡ 0 → verdict (words_of B) ≡ verdict_of B
unfolding verdict_of
verdict_whole B h p = rw (verdict_of, le-leb _ _ h, eq-eqb _ _ p)

check_large : (n : ℕ) (W : List ℕ) → area_limit ≤ n → check_of n W ≡ verdict W
unfolding check_of
check_large n W h = rw (check_of, le-ltb _ _ h)

pub verdict_same : (B W A : List ℕ) (n : ℕ) (r : Checked) → W ≡ words_of B → outcome W A r ≡ check_of n W → area_limit ≤ n
    → length B ≤ input_limit → length B % 4 ≡ 0 → outcome (words_of B) A r ≡ verdict_of B
verdict_same B W A n r e q h p m =
    subst (λ (x : List ℕ). outcome x A r ≡ check_of n x) e q ∙ check_large n (words_of B) h ∙ verdict_whole B p m

-- the text

pub asks_in : (B : List ℕ) (at : ℕ) → at < length B / 4 → asks (get_or B (4 * at + 3) 0 / 16) ≡ asks_at B at
unfolding asks_at
asks_in B at h = rw (asks_at, lt-ltb _ _ h)

pub asks_past : (B : List ℕ) (at : ℕ) → length B / 4 ≤ at → false ≡ asks_at B at
unfolding asks_at
asks_past B at h = rw (asks_at, le-ltb _ _ h)

-- the text of a refusal, by whether a question begins there
module _ (B : List ℕ) (n at : ℕ) where
  pub text_asked : {old new : List ℕ} {r : ℕ} → eqb n form_refusal ≡ true → asks_at B at ≡ true → Put old 0 (asked_there at) new r
      → Put old 0 (refused_text B n at) new r
  unfolding refused_text
  text_asked {old} {new} {r} e t = subst (λ x. Put old 0 x new r) (rw (refused_text, e, t))

  pub text_other : {old new : List ℕ} {r : ℕ} → eqb n form_refusal ≡ false → Put old 0 (refusal n at) new r
      → Put old 0 (refused_text B n at) new r
  unfolding refused_text
  text_other {old} {new} {r} h = subst (λ x. Put old 0 x new r) (rw (refused_text, h))

  pub text_unasked : {old new : List ℕ} {r : ℕ} → asks_at B at ≡ false → Put old 0 (refusal n at) new r
      → Put old 0 (refused_text B n at) new r
  unfolding refused_text
  text_unasked {old} {new} {r} t = subst (λ x. Put old 0 x new r) (rw (refused_text, t, and-false (eqb n form_refusal)))

pub text_accepted : (B W A : List ℕ) (l : Layout)
    → bytes_of "accepted\n"
    ++ (first_lines l.names l.crates l.dependencies l.maps l.modules
    ++ (last_lines l.children l.preludes l.definitions l.scopes l.imports l.externs ++ line "members " l.members))
    ≡ text_of B (accept (snap_of W A l))
text_accepted B W A l = simp length_rows

-- a refusal is told by its number
pub form_same : (r : Refusal) → sameb the_type r Form ≡ eqb (refusal_number r) form_refusal
form_same Area = refl
form_same Fuel = refl
form_same Field = refl
form_same Unknown = refl
form_same Macro = refl
form_same Words = refl
form_same Form = refl
form_same Range = refl
form_same Undefined = refl
form_same Repeated = refl
form_same Place = refl
form_same Count = refl
form_same Bytes = refl
form_same Rest = refl
form_same Question = refl
form_same Edition = refl
form_same Batch = refl
form_same Target = refl
form_same Limit = refl
form_same Entry = refl
form_same Room = refl
form_same Window = refl
form_same Waits = refl
form_same Join = refl

-- a text at the front

pub front : {old new t : List ℕ} {r : ℕ} → Put old 0 t new r → take r new ≡ t
front p = p.same
