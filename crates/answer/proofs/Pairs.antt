-- Two reports of the code, of one question with two fuels, compared.
use Prim.Native.Nat.{ℕ, ◌≤◌, ◌<◌}
use mathlib.Core.Path.{◌≡◌, refl, ◌∙◌, subst}
use mathlib.Core.List.{List}
use native.Mathlib.Omega.{arith}
use native.Mathlib.Decide.{dec_le}
use lib.ListN.{length}
use Rattle.snapshot.specs.Limits.{fuel_limit, area_limit}
use Rattle.snapshot.specs.Refusals.{area_refusal, fuel_refusal}
use Rattle.find_path_spec.specs.declared.Query.{Query}
use Rattle.find_path_spec.specs.declared.Question.{Question}
use Rattle.find_path_spec.specs.declared.Report.{Report}
use Rattle.find_path_spec.specs.Report.{refused, report_of}
use Rattle.find_path_spec.specs.laws.Fuels.{IsRefused, Compared}
use Rattle.find_path_spec.specs.Report.{report_at}
use Rattle.find_path_spec.proofs.laws.Fuels.{fuels_compared}
use Rattle.answer.specs.Answers.{Answers}
use Rattle.answer.specs.Twice.{FuelsTold, AnswersTwice}
use Rattle.answer.specs.declared.twice.Reports.{Reports}
use Rattle.answer.proofs.checked.Laws.{small, much, report_fault, same_report}

module _ (W : List ℕ) (n : ℕ) (q : Question) where
  refused_two : (k : ℕ) → IsRefused (refused k)
  unfolding refused
  refused_two k = refl

  -- a report that is no refusal had a work area that serves, and fuel within the limit
  serves : (IsRefused (report_of W n q) → ⊥) → area_limit ≤ n
  serves h = elim (dec_le area_limit n) [
    | yes p ↦ p
    | no p ↦ absurd (h (subst (λ (r : Report). IsRefused r)
        (report_fault W n q (refused area_refusal) area_refusal (small n q.query q.fuel (omega arith)) (λ z. omega arith) refl)
        (refused_two area_refusal)))
  ]

  fuelled : (IsRefused (report_of W n q) → ⊥) → q.fuel ≤ fuel_limit
  fuelled h = elim (dec_le q.fuel fuel_limit) [
    | yes p ↦ p
    | no p ↦ absurd (h (subst (λ (r : Report). IsRefused r)
        (report_fault W n q (refused fuel_refusal) fuel_refusal (much n q.query q.fuel (serves h) (omega arith)) (λ z. omega arith) refl)
        (refused_two fuel_refusal)))
  ]

told_of : (W : List ℕ) (q : Query) (F G : ℕ) (r s : Report) → Compared W area_limit q F G → r ≡ report_at W area_limit q F
    → s ≡ report_at W area_limit q G
    → FuelsTold W q F G r s
told_of W q F G r s c e f = rw (e, f) (record {
  snapshot = c.snapshot;
  accepted = c.accepted;
  equal = c.equal;
  smaller =
      c.smaller;
  larger = c.larger;
})

pub told : (W : List ℕ) (a b : ℕ) (q : Query) (F G : ℕ) (r s : Report) → r ≡ report_at W a q F → s ≡ report_at W b q G → F < G
    → (IsRefused r → ⊥) → (IsRefused s → ⊥) → FuelsTold W q F G r s
told W a b q F G r s e f lt hr hs =
    let Q : Question = record { query = q; fuel = F } in
    let P : Question = record { query = q; fuel = G } in
    let ha : (IsRefused (report_of W a Q) → ⊥) = rw e at hr in
    let hb : (IsRefused (report_of W b P) → ⊥) = rw f at hs in
    let i : area_limit ≤ a = serves W a Q ha in
    let j : area_limit ≤ b = serves W b P hb in
    let x : report_of W a Q ≡ report_of W area_limit Q = same_report W a area_limit Q i (omega arith) in
    let y : report_of W b P ≡ report_of W area_limit P = same_report W b area_limit P j (omega arith) in
    told_of W q F G r s (fuels_compared W area_limit q F G lt (fuelled W b P hb) (rw x at ha) (rw y at hb)) (e ∙ x) (f ∙ y)

pub answers_twice : (W A₀ B₀ : List ℕ) (q : Query) (F G : ℕ) (A B : List ℕ) (r : Reports)
    → Answers W A₀ (record { query = q; fuel = F }) A r.first → Answers W B₀ (record { query = q; fuel = G }) B r.second
    → AnswersTwice W A₀ B₀ q F G A B r
answers_twice W A₀ B₀ q F G A B r a b =
    record { first = a; second = b; told = λ lt h k. told W (length A₀) (length B₀) q F G r.first r.second a.report b.report lt h k }
