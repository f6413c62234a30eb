-- Laws of the state of eight windows, as the code goes over it.
use Prim.Native.Nat.{ℕ, zero, suc}
use mathlib.Core.Path.{◌≡◌, refl, sym, ◌∙◌, ap}
use mathlib.Core.Bool.{true, false}
use mathlib.Core.List.{List}
use borrow.Author.Tests.{eq-eqb, ne_eqb}
use lib.Dec.{eqb}
use lib.ListN.{length}
use Rattle.find_path_spec.specs.declared.Question.{Question}
use Rattle.find_path_spec.specs.declared.Report.{Report}
use Rattle.find_path_spec.specs.Report.{report_of}
use Rattle.answer.specs.Answers.{Answers}
use Rattle.windows.specs.rules.States.{asked_by, waiting, with_row, served, place_fault, placed_unless, after_place, after_serving, after_turn}
use Rattle.windows.specs.Windows.{Placed, idle_turn, serving_turn, turn_of, area_turned, Turned}

-- a question placed

kept_unless : (S : List ℕ) (w : ℕ) (q : Question) (n : ℕ) → (n ≡ 0 → ⊥) → S ≡ placed_unless S w q n
unfolding placed_unless
kept_unless S w q zero h = absurd (h refl)
kept_unless S w q (suc n) h = refl

module _ (S : List ℕ) (w : ℕ) (q : Question) (n : ℕ) (e : n ≡ place_fault S w) where
  pub placed_not : (n ≡ 0 → ⊥) → Placed S w q S n
  unfolding after_place
  placed_not h = record { number = e; state = kept_unless S w q n h ∙ ap (placed_unless S w q) e }

  pub placed_so : n ≡ 0 → (T : List ℕ) → T ≡ with_row S w (waiting q) → Placed S w q T n
  unfolding after_place placed_unless
  placed_so h T t = record { number = e; state = t ∙ ap (placed_unless S w q) (sym h ∙ e) }

-- a turn

module _ (S W A : List ℕ) (w : ℕ) (e : w ≡ served S) where
  pub turned_not : w ≡ 8 → Turned S W A S A idle_turn
  unfolding turn_of area_turned after_turn
  turned_not h =
      let t : eqb (served S) 8 ≡ true = eq-eqb (served S) 8 (sym e ∙ h) in
      record { turn = sym (rw (turn_of, t)); state = sym (rw (after_turn, t)); area = sym (rw (area_turned, t)) }

  module _ (h : w ≡ 8 → ⊥) (q : Question) (a : q ≡ asked_by S w) (B : List ℕ) (p : Report) (k : Answers W A q B p) where
    pub turned_so : (T : List ℕ) → T ≡ after_serving S w → Turned S W A T B (record { idle = false; window = w; report = p })
    unfolding turn_of area_turned after_turn serving_turn
    turned_so T c =
        let t : eqb (served S) 8 ≡ false = ne_eqb (served S) 8 (λ x. h (e ∙ x)) in
        record {
          turn =
              (λ i. record { idle = false; window = w; report = (k.report ∙ ap (report_of W (length A)) a) i })
              ∙ ap (serving_turn S W (length A)) e
              ∙ sym (rw (turn_of, t));
          state = c ∙ ap (after_serving S) e ∙ sym (rw (after_turn, t));
          area = k.area ∙ sym (rw (area_turned, t));
        }
