-- Laws of a work area that is cleared, and of an entry point.
use Prim.Native.Nat.{ℕ, ◌≤◌, ◌<◌}
use mathlib.Core.Path.{◌≡◌, sym, ◌∙◌, ap}
use mathlib.Core.List.{List, ◌++◌}
use native.Mathlib.Omega.{arith}
use borrow.Author.Tests.{lt-ltb, le-ltb, ltb-true, ltb-false}
use lib.Dec.{ltb}
use lib.Seq.{length-take-le}
use Rattle.std.specs.Array.{IsFirstChunk}
use lib.ListN.{length, drop}
use Rattle.snapshot.specs.Limits.{area_limit}
use Rattle.snapshot.specs.Refusals.{area_refusal}
use Rattle.accept.proofs.Accepted.{by_test}
use Rattle.find_path_spec.specs.declared.Question.{Question}
use Rattle.find_path_spec.specs.declared.Report.{Report}
use Rattle.find_path_spec.specs.Report.{refused, report_of}
use Rattle.answer.proofs.checked.Laws.{small, report_fault, same_report}
use Rattle.answer.specs.Answers.{zeros, area_after, Answers}

-- the front of an area
pub front_long : {A B : List ℕ} → IsFirstChunk A B area_limit → length B ≡ area_limit
front_long f = ap length f.same ∙ length-take-le area_limit _ f.enough

-- an entry point

pub area_small : (A : List ℕ) → length A < area_limit → A ≡ area_after A
unfolding area_after
area_small A h = sym (rw (area_after, lt-ltb _ _ h))

pub area_large : (A B : List ℕ) → area_limit ≤ length A → B ≡ zeros area_limit → B ++ drop area_limit A ≡ area_after A
unfolding area_after
area_large A B h z = ap (λ x. x ++ drop area_limit A) z ∙ sym (rw (area_after, le-ltb _ _ h))

module _ (W A : List ℕ) (q : Question) (r : Report) where
  pub answers_small : length A < area_limit → r ≡ refused area_refusal → Answers W A q A r
  answers_small h e =
      record {
        report = report_fault W (length A) q r area_refusal (small (length A) q.query q.fuel h) (λ z. omega arith) e;
        area = area_small A h;
      }

  pub answers_large : (B : List ℕ) → area_limit ≤ length A → r ≡ report_of W area_limit q → B ≡ zeros area_limit
      → Answers W A q (B ++ drop area_limit A) r
  answers_large B h e z =
      record {
        report = e ∙ same_report W area_limit (length A) q (omega arith) h;
        area = area_large A B h z;
      }

  pub answers_by : (B : List ℕ) → B ≡ area_after A → (length A < area_limit → r ≡ refused area_refusal)
      → (area_limit ≤ length A → r ≡ report_of W area_limit q) → Answers W A q B r
  answers_by B e f g =
      record {
        report =
            by_test (ltb (length A) area_limit)
            (λ t. let h = ltb-true _ _ t in (answers_small h (f h)).report)
            (λ t. let h = ltb-false _ _ t in g h ∙ same_report W area_limit (length A) q (omega arith) h);
        area = e;
      }
