-- The loop over the records goes along the fold of the definition.
use Prim.Native.Nat.{ℕ, zero, suc, ◌+◌, ◌≤◌, ◌<◌}
use mathlib.Core.Path.{◌≡◌, refl, sym, ◌∙◌, subst}
use mathlib.Core.List.{List, []}
use native.Mathlib.Omega.{arith}
use lib.ListN.{length, get_or}
use borrow.Author.Tests.{lt-ltb, le-ltb, le-leb}
use Rattle.check_records.specs.chains.Chains.{marks_end}
use Rattle.snapshot.specs.Lists.{rows}
use Rattle.snapshot.specs.Limits.{word_limit, area_limit}
use Rattle.snapshot.specs.Words.{kind_of, arguments_at}
use Rattle.snapshot.specs.Records.{Map, Snapshot}
use Rattle.snapshot.specs.Layouts.{no_records, snap_with, row_words}
use Rattle.snapshot.specs.declared.layout.Layout.{Layout}
use Rattle.check_rules.specs.Steps.{no, on}
use Rattle.check_rules.specs.Verdict.{step_at, refuse, finish, records, verdict}
use Rattle.check_records.specs.record_rules.Stands.{Here, Stands, Answered}
use Rattle.accept.specs.Ends.{Ended}
use Rattle.check_records.proofs.record_rules.Indexed.{indexes_none}
use Rattle.std.specs.Prelude.{Result, Ok, Err, MatchResult}
use Rattle.std.specs.Result.{IsErrAnd}
use Rattle.snapshot.specs.Refusals.{refusal_number}
use Rattle.snapshot.specs.declared.refusal.Refusal.{Refusal}

module _ (W : List ℕ) (at last : ℕ) (s : Snapshot) where
  records_stop : (f n : ℕ) → at < length W → length W ≤ f + at → step_at W at last s ≡ no n → records f W at last s ≡ refuse n at
  unfolding records
  records_stop zero n h g e = absurd (omega arith)
  records_stop (suc f) n h g e = rw (records, lt-ltb _ _ h, e)

  pub records_go : (f : ℕ) (t : Snapshot) → at < length W → length W ≤ f + at → step_at W at last s ≡ on t
      → (f' : ℕ) × (length W ≤ f' + (at + 1 + arguments_at W at))
      × (records f W at last s ≡ records f' W (at + 1 + arguments_at W at) (kind_of (get_or W at 0)) t)
  unfolding records
  records_go zero t h g e = absurd (omega arith)
  records_go (suc f) t h g e = (f, omega arith, rw (records, lt-ltb _ _ h, e))

  pub records_end : (f : ℕ) → length W ≤ at → records f W at last s ≡ finish (length W) s
  unfolding records
  records_end zero h = refl
  records_end (suc f) h = rw (records, le-ltb _ _ h)

-- the words that are left decide as all of them do
pub record Going (W A : List ℕ) (at last : ℕ) (l : Layout) : Type 0 where
  pub maps : List Map
  pub stands : Stands W A last at l maps
  pub fuel : ℕ
  pub enough : length W ≤ fuel + at
  pub same : verdict W ≡ records fuel W at last (snap_with W A l maps)

stands_start : (W A : List ℕ) → ((i : ℕ) → row_words ≤ i → i < marks_end → get_or A i 0 ≡ 0) → Stands W A 0 0 no_records []
unfolding rows
stands_start W A z =
    record {
      place = refl;
      within = omega arith;
      upto =
          record {
            crates = λ h. refl;
            dependencies = λ h. refl;
            maps = λ h. refl;
            modules = λ h. refl;
            children = λ h. refl;
            preludes = λ h. refl;
            definitions = λ h. refl;
            scopes = λ h. refl;
            imports = λ h. refl;
            externs = λ h. refl;
            members = λ h. refl;
          };
      limited = record { names = omega arith; crates = omega arith; modules = omega arith; definitions = omega arith };
      heads = λ j h. absurd (omega arith);
      count = refl;
      latest = λ h. absurd (omega arith);
      below = λ m h. absurd (omega arith);
      rising = λ i j h k. absurd (omega arith);
      inside = λ m h. absurd (omega arith);
      own = λ c h. absurd (omega arith);
      index = indexes_none W A z;
    }

going_none : (W A : List ℕ) → length W ≤ word_limit → ((i : ℕ) → row_words ≤ i → i < marks_end → get_or A i 0 ≡ 0) → Going W A 0 0 no_records
unfolding verdict rows
going_none W A h z = record { maps = []; stands = stands_start W A z; fuel = length W; enough = omega arith; same = rw (verdict, le-leb _ _ h) }

pub going_start : (W A : List ℕ) {l : Layout} → length W ≤ word_limit → ((i : ℕ) → row_words ≤ i → i < marks_end → get_or A i 0 ≡ 0)
    → l ≡ no_records → Going W A 0 0 l
going_start W A h z e = subst (λ l. Going W A 0 0 l) (sym e) (going_none W A h z)

pub going_here : (W A : List ℕ) (at last : ℕ) (l : Layout) → Going W A at last l → at < length W → length W ≤ word_limit
    → area_limit ≤ length A → Here W A l at
going_here W A at last l g h s r = record {
  place = g.stands.place;
  here = h;
  short = s;
  room = r;
  limited = g.stands.limited;
  index = g.stands.index;
}

-- r is what a turn answered, B the area after it
module _ (W A B : List ℕ) (at last : ℕ) (l : Layout) (r : Result Layout Refusal) (g : Going W A at last l) (h : at < length W)
    (a : (ms : List Map) → Stands W A last at l ms → Answered W B (kind_of (get_or W at 0)) (at + 1 + arguments_at W at)
    (step_at W at last (snap_with W A l ms)) r)
  where
    answer : {t : Result Layout Refusal} → r ≡ t → Answered W B (kind_of (get_or W at 0)) (at + 1 + arguments_at W at)
        (step_at W at last (snap_with W A l g.maps)) t
    answer e = subst (λ x. Answered W B (kind_of (get_or W at 0)) (at + 1 + arguments_at W at) (step_at W at last (snap_with W A l g.maps)) x) e
        (a g.maps g.stands)

    pub going_stop : (n : Refusal) → r ≡ Err n → verdict W ≡ refuse (refusal_number n) at
    going_stop n e = g.same ∙ records_stop W at last (snap_with W A l g.maps) g.fuel (refusal_number n) h g.enough (answer e)

    going_next : (m : Layout) → r ≡ Ok m → Going W B (at + 1 + arguments_at W at) (kind_of (get_or W at 0)) m
    going_next m e =
        let b = answer e in
        let x = records_go W at last (snap_with W A l g.maps) g.fuel (snap_with W B m b.0) h g.enough b.1 in
        record { maps = b.0; stands = b.2; fuel = x.0; enough = x.1; same = g.same ∙ x.2 }

    pub going_on : (m : Layout) → r ≡ Ok m → {n k : ℕ} → n ≡ arguments_at W at → k ≡ kind_of (get_or W at 0) → Going W B (at + 1 + n) k m
    going_on m e {k = k} en ek = subst (λ n. Going W B (at + 1 + n) k m) (sym en)
        (subst (λ k. Going W B (at + 1 + arguments_at W at) k m) (sym ek) (going_next m e))

pub going_end : (W A : List ℕ) (at last : ℕ) (l : Layout) → Going W A at last l → length W ≤ at → Ended W A (Ok l)
going_end W A at last l g h =
    let e : at ≡ length W = (let q = g.stands.within in omega arith) in
    (g.maps, last, subst (λ p. Stands W A last p l g.maps) e g.stands, g.same ∙ records_end W at last (snap_with W A l g.maps) g.fuel h)

-- what an answer was, before its error was mapped

pub before_ok : {T E D : Type 0} (P : E → D → Type 0) (s : Result T E) {r : Result T D} (x : T)
    → MatchResult s (λ y. r ≡ Ok y) (λ e. IsErrAnd r (P e)) → r ≡ Ok x → s ≡ Ok x
before_ok P (Ok y) x h e = cc
before_ok P (Err f) x h e = absurd (subst (λ z. IsErrAnd z (P f)) e h)

pub before_err : {T E D : Type 0} (P : E → D → Type 0) (s : Result T E) {r : Result T D} (d : D)
    → MatchResult s (λ y. r ≡ Ok y) (λ e. IsErrAnd r (P e)) → r ≡ Err d → (e : E) × (s ≡ Err e) × P e d
before_err P (Ok y) {r = r} d h e = absurd (let f : Ok y ≡ Err d = sym h ∙ e in cc)
before_err P (Err f) d h e = (f, refl, subst (λ z. IsErrAnd z (P f)) e h)
