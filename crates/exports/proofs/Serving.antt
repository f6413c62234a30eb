-- Questions placed and turns on the words of a state, and a turn's report as words.
use Prim.Native.Nat.{ℕ, ◌≤◌, ◌<◌}
use mathlib.Core.Path.{◌≡◌, refl, sym, ◌∙◌, ap}
use mathlib.Core.Bool.{Bool, true, false, false≢true}
use mathlib.Core.List.{List}
use native.Mathlib.Omega.{arith}
use borrow.Author.Tests.{eqb-true}
use lib.Dec.{eqb}
use lib.ListN.{length}
use Rattle.std.specs.Prelude.{Option, Some, None}
use Rattle.reports.specs.Written.{Written, written_to, report_size}
use Rattle.find_path_spec.specs.declared.Question.{Question}
use Rattle.windows.specs.rules.States.{place_fault, after_place, served, after_turn}
use Rattle.windows.specs.declared.turns.Served.{Served as Shown}
use Rattle.windows.specs.Windows.{Turn, Placed, told, idle_turn, serving_turn, turn_of, area_turned, Turned}
use Rattle.exports.specs.Turns.{report_turned, Served, Unserved}

-- the words were taken apart, and put together again
module _ (S₀ S T U : List ℕ) (e : S ≡ S₀) (f : U ≡ T) where
  pub placed_words : (w : ℕ) (q : Question) (r : ℕ) → Placed S w q T r → Placed S₀ w q U r
  placed_words w q r p = record { number = p.number ∙ ap (λ x. place_fault x w) e; state = f ∙ p.state ∙ ap (λ x. after_place x w q) e }

  pub turned_words : (W A B : List ℕ) (t : Turn) → Turned S W A T B t → Turned S₀ W A U B t
  turned_words W A B t k =
      record {
        turn = k.turn ∙ ap (λ x. turn_of x W (length A)) e;
        state = f ∙ k.state ∙ ap after_turn e;
        area = k.area ∙ ap (λ x. area_turned x A) e;
      }

module _ (S W A T B old : List ℕ) {o : Option Shown} (k : Turned S W A T B (told o)) where
  pub served_none : o ≡ None → Served S W A old T B old 8
  unfolding turn_of idle_turn serving_turn report_turned
  served_none h = at (eqb (served S) 8) refl
    where
      at : (b : Bool) → eqb (served S) 8 ≡ b → Served S W A old T B old 8
      at true e =
          record { window = sym (eqb-true (served S) 8 e); state = k.state; area = k.area; report = sym (rw (report_turned, e)) }
      at false e =
          let f : turn_of S W (length A) ≡ serving_turn S W (length A) (served S) = rw (turn_of, e) in
          absurd (false≢true (sym (ap (λ (x : Turn). x.idle) (k.turn ∙ f)) ∙ ap (λ x. (told x).idle) h))

  pub served_one : {r : Shown} → o ≡ Some r → (new : List ℕ) (b : Bool) → Written r.report old new b → Served S W A old T B new r.window.number
  unfolding turn_of idle_turn serving_turn report_turned
  served_one {r} h new b w = at (eqb (served S) 8) refl
    where
      at : (c : Bool) → eqb (served S) 8 ≡ c → Served S W A old T B new r.window.number
      at true e =
          let f : turn_of S W (length A) ≡ idle_turn = rw (turn_of, e) in
          absurd (false≢true (sym (ap (λ x. (told x).idle) h) ∙ ap (λ (x : Turn). x.idle) (k.turn ∙ f)))
      at false e =
          let f : turn_of S W (length A) ≡ serving_turn S W (length A) (served S) = rw (turn_of, e) in
          let g : told (Some r) ≡ serving_turn S W (length A) (served S) = ap told (sym h) ∙ k.turn ∙ f in
          record {
            window = ap (λ (x : Turn). x.window) g;
            state = k.state;
            area = k.area;
            report = w.words ∙ ap (λ (x : Turn). written_to x.report old) g ∙ sym (rw (report_turned, e));
          }

-- a turn by the words for its report: too few, or enough
module _ (S W A old T B new : List ℕ) (r : ℕ) where
  abbrev Either : Type 0
  Either = (report_size ≤ length old → Served S W A old T B new r) × (length old < report_size → Unserved S A old T B new r)

  pub turn_short : length old < report_size → Unserved S A old T B new r → Either
  turn_short h u = (λ k. absurd (omega (arith, h, k)), λ _. u)

  pub turn_long : report_size ≤ length old → Served S W A old T B new r → Either
  turn_long h s = (λ _. s, λ k. absurd (omega (arith, h, k)))
