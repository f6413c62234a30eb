-- Every report is a refusal, or that of a search on an accepted snapshot; which outcome it has.
use mathlib.Core.Path.{◌≡◌, refl, ap, sym, ◌∙◌}
use native.Mathlib.Omega.{arith}
use mathlib.Core.List.{List}
use mathlib.Core.Bool.{Bool, true, false, not, false≢true}
use mathlib.Core.Logic.{◌⊎◌, inl, inr, ⊎_elim}
use Prim.Native.Nat.{ℕ, zero, suc, ◌≤◌}
use Rattle.snapshot.specs.Refusals.{largest_refusal}
use Rattle.snapshot.specs.Records.{Snapshot}
use Rattle.check_rules.specs.Verdict.{Verdict, refuse, accept, verdict}
use Rattle.accept.proofs.Accepted.{by_test}
use Rattle.accept.proofs.Bools.{and_left, and_right}
use Rattle.find_path_choice.specs.Choices.{Choice}
use Rattle.find_path_spec.specs.declared.Query.{Query}
use Rattle.find_path_spec.specs.declared.Question.{Question}
use Rattle.find_path_spec.specs.declared.Report.{Report}
use Rattle.find_path_spec.specs.Rules.{bit}
use Rattle.find_path_spec.specs.Report.{call_fault, question_fault, refused, flag, misleads, outcome_by, outcome_of}
use Rattle.find_path_spec.specs.Report.{reported, searched, answer_unless, report_by, report_unless, report_of}
use Rattle.find_path_spec.proofs.laws.Refusals.{NumberSmall, verdict_small, call_small, question_small, Allowed, call_allowed}

-- found or none
pub flag_small : (b : Bool) → flag b ≤ 1
unfolding flag
flag_small true = omega arith
flag_small false = omega arith

found_of_lem : (b : Bool) → flag (not b) ≡ 0 → b ≡ true
unfolding flag
found_of_lem true e = refl
found_of_lem false e = absurd (omega arith)

of_found : (b : Bool) → b ≡ true → flag (not b) ≡ 0
unfolding flag
of_found true e = refl
of_found false e = absurd (false≢true e)

module _ (s : Snapshot) (q : Query) (c : Choice) where
  misleads_found : misleads s q c ≡ true → c.found ≡ true
  unfolding misleads
  misleads_found e = and_left c.found _ (and_right (bit q.options 64) _ e)

  -- without bit 64 nothing misleads
  unread : bit q.options 64 ≡ false → misleads s q c ≡ false
  unfolding misleads
  unread e = rw (misleads, e)

  outcome_misleads : misleads s q c ≡ true → outcome_of s q c ≡ 3
  unfolding outcome_by
  outcome_misleads e = ap (λ (b : Bool). outcome_by b c.found) e

  outcome_plain : misleads s q c ≡ false → outcome_of s q c ≡ flag (not c.found)
  unfolding outcome_by
  outcome_plain e = ap (λ (b : Bool). outcome_by b c.found) e

  -- ... and the outcome is found or none
  pub outcome_unread : bit q.options 64 ≡ false → outcome_of s q c ≡ flag (not c.found)
  outcome_unread e = outcome_plain (unread e)

  pub outcome_small : outcome_of s q c ≤ 3
  outcome_small =
      by_test (misleads s q c) (λ e. omega (arith, outcome_misleads e)) (λ e. omega (arith, outcome_plain e, flag_small (not c.found)))

  -- what a search found is no refusal
  pub outcome_answers : outcome_of s q c ≡ 2 → ⊥
  outcome_answers h =
      by_test (misleads s q c) (λ e. omega (arith, outcome_misleads e)) (λ e. omega (arith, outcome_plain e, flag_small (not c.found)))

  -- it has a path exactly where one was found
  pub outcome_path : c.found ≡ true → (outcome_of s q c ≡ 0) ⊎ (outcome_of s q c ≡ 3)
  outcome_path h =
      by_test (misleads s q c) (λ e. inr (outcome_misleads e)) (λ e. inl (outcome_plain e ∙ of_found _ h))

  pub path_found : (outcome_of s q c ≡ 0) ⊎ (outcome_of s q c ≡ 3) → c.found ≡ true
  path_found h =
      by_test (misleads s q c) misleads_found
      (λ e. ⊎_elim (λ z. found_of_lem _ (sym (outcome_plain e) ∙ z)) (λ z. absurd (omega (arith, outcome_plain e, flag_small (not c.found)))) h)

pub data Kind (words : List ℕ) (q : Query) (fuel : ℕ) (r : Report) : Type 0 where
  refusal : (n : ℕ) → n ≤ largest_refusal → r ≡ refused n → Kind words q fuel r
  answer : (s : Snapshot) → verdict words ≡ accept s → Allowed q fuel → r ≡ reported s q (searched s q fuel) → Kind words q fuel r

by_question : (words : List ℕ) (q : Query) (fuel : ℕ) (s : Snapshot) → verdict words ≡ accept s → Allowed q fuel
    → (n : ℕ) → n ≤ largest_refusal → Kind words q fuel (answer_unless s q fuel n)
unfolding answer_unless
by_question words q fuel s e l zero h = answer s e l refl
by_question words q fuel s e l (suc n) h = refusal (suc n) h refl

by_verdict : (words : List ℕ) (q : Query) (fuel : ℕ) → Allowed q fuel
    → (v : Verdict) → verdict words ≡ v → NumberSmall v → Kind words q fuel (report_by q fuel v)
unfolding report_by
by_verdict words q fuel l (refuse n place) e h = refusal n (omega (arith, h)) refl
by_verdict words q fuel l (accept s) e h = by_question words q fuel s e l (question_fault s q) (question_small s q)

by_call : (words : List ℕ) (q : Query) (fuel n : ℕ) → n ≤ largest_refusal → (n ≡ 0 → Allowed q fuel)
    → Kind words q fuel (report_unless words q fuel n)
unfolding report_unless
by_call words q fuel zero h l = by_verdict words q fuel (l refl) (verdict words) refl (verdict_small words)
by_call words q fuel (suc n) h l = refusal (suc n) h refl

pub kind_of_lem : (words : List ℕ) (area : ℕ) (q : Question) → Kind words q.query q.fuel (report_of words area q)
unfolding report_of
kind_of_lem words area q =
    by_call words q.query q.fuel (call_fault area q.query q.fuel) (call_small area q.query q.fuel)
    (call_allowed area q.query q.fuel)
