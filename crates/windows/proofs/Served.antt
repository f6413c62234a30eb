-- A question that waits is served within eight turns, and a turn is idle exactly if none waits.
use Prim.Native.Nat.{ℕ, zero, suc, ◌+◌, ◌-◌, ◌%◌, ◌≤◌, ◌<◌}
use mathlib.Core.Path.{◌≡◌, refl, sym, ◌∙◌, ap, subst}
use mathlib.Core.Bool.{Bool, true, false, not, false≢true}
use mathlib.Core.List.{List, [], ◌∷◌}
use mathlib.Core.Logic.{◌↔◌}
use native.Mathlib.Omega.{arith}
use borrow.Author.Tests.{eqb-true, eqb-false, eq-eqb}
use lib.Dec.{eqb}
use lib.ListN.{length, get_or, take}
use lib.Seq.{take-nil}
use Rattle.find_path_spec.specs.declared.Question.{Question}
use Rattle.windows.specs.rules.States.{row_of, waits, asked_by, waiting, place_fault, after_place, first_from, served, after_serving, after_turn}
use Rattle.windows.specs.Windows.{Turn, idle_turn, serving_turn, turn_of}
use Rattle.windows.specs.Runs.{empty_state, Operation, placing, turning, after_one, after_run, turns, serving_in, servings, ServedWithin}
use Rattle.windows.proofs.state.Laws.{served_start, first_here, first_next, fault_room}
use Rattle.windows.proofs.Kept.{asking, row_waits, row_asked, placed_row, place_puts, turn_serves, place_length, place_next, place_row}
use Rattle.windows.proofs.Kept.{serving_next, serving_row, turn_length}

-- Counting round, the first window that waits is as near as any other that waits.

record Met (S : List ℕ) (v n d : ℕ) : Type 0 where
  steps : ℕ
  near : steps ≤ d
  same : first_from S v n ≡ (v + steps) % 8

first_met : (S : List ℕ) (n v d : ℕ) → v < 8 → d < n → waits S ((v + d) % 8) ≡ true → Met S v n d
first_met S zero v d h k t = absurd (omega arith)
first_met S (suc n) v d h k t = at (waits S v) refl (λ e. first_met S n ((v + 1) % 8) e (omega arith))
  where
    later : (e : ℕ) → d ≡ e + 1 → waits S v ≡ false → Met S ((v + 1) % 8) n e → Met S v (suc n) d
    later e g f m =
        let k : suc n - 1 ≡ n = omega arith in
        record {
          steps = m.steps + 1;
          near = omega (arith, g, m.near);
          same =
              first_next S v false (sym f) (suc n) (omega arith) refl
              ∙ ap (first_from S ((v + 1) % 8)) k
              ∙ m.same
              ∙ (let x : ((v + 1) % 8 + m.steps) % 8 ≡ (v + (m.steps + 1)) % 8 = omega arith in x);
        }

    further : (e : ℕ) → d ≡ e → waits S v ≡ false → ((x : ℕ) → x < n → waits S (((v + 1) % 8 + x) % 8) ≡ true → Met S ((v + 1) % 8) n x)
        → Met S v (suc n) d
    further zero g f r =
        let x : (v + d) % 8 ≡ v = omega (arith, g) in
        absurd (false≢true (sym f ∙ ap (waits S) (sym x) ∙ t))
    further (suc e) g f r =
        let x : ((v + 1) % 8 + e) % 8 ≡ (v + d) % 8 = omega (arith, g) in
        later e (omega (arith, g)) f (r e (omega (arith, g, k)) (ap (waits S) x ∙ t))

    at : (b : Bool) → waits S v ≡ b → ((x : ℕ) → x < n → waits S (((v + 1) % 8 + x) % 8) ≡ true → Met S ((v + 1) % 8) n x) → Met S v (suc n) d
    at true f r =
        let x : v ≡ (v + 0) % 8 = omega arith in
        record { steps = 0; near = omega arith; same = first_here S v true (sym f) (suc n) (omega arith) refl ∙ x }
    at false f r = further d refl f r

-- the window from which a turn counts
abbrev next_of : List ℕ → ℕ
next_of S = get_or S 0 0 % 8

served_met : (S : List ℕ) (w d : ℕ) → d < 8 → w ≡ (next_of S + d) % 8 → waits S w ≡ true → Met S (next_of S) 8 d
served_met S w d h e t = first_met S 8 (next_of S) d (omega arith) h (ap (waits S) (sym e) ∙ t)

-- a turn is idle exactly if no window waits

none_first : (S : List ℕ) → ((w : ℕ) → w < 8 → waits S w ≡ false) → (n v : ℕ) → v < 8 → first_from S v n ≡ 8
unfolding first_from
none_first S f zero v h = refl
none_first S f (suc n) v h =
    let k : suc n - 1 ≡ n = omega arith in
    first_next S v false (sym (f v h)) (suc n) (omega arith) refl
    ∙ ap (first_from S ((v + 1) % 8)) k
    ∙ none_first S f n ((v + 1) % 8) (omega arith)

idle_none : (S : List ℕ) → served S ≡ 8 → (w : ℕ) → w < 8 → waits S w ≡ false
idle_none S e w h = at (waits S w) refl
  where
    at : (b : Bool) → waits S w ≡ b → b ≡ false
    at true t =
        let m : Met S (next_of S) 8 ((w + 8 - next_of S) % 8) = served_met S w ((w + 8 - next_of S) % 8) (omega arith) (omega arith) t in
        absurd (omega (arith, e, served_start S, m.same))
    at false t = refl

idle_is : (S W : List ℕ) (area : ℕ) → (turn_of S W area).idle ≡ eqb (served S) 8
unfolding turn_of idle_turn serving_turn
idle_is S W area = at (eqb (served S) 8) refl
  where
    at : (b : Bool) → eqb (served S) 8 ≡ b → (turn_of S W area).idle ≡ b
    at true e =
        let f : turn_of S W area ≡ idle_turn = rw (turn_of, e) in
        ap (λ (x : Turn). x.idle) f
    at false e =
        let f : turn_of S W area ≡ serving_turn S W area (served S) = rw (turn_of, e) in
        ap (λ (x : Turn). x.idle) f

pub idle_exactly : (S W : List ℕ) (area : ℕ) → ((turn_of S W area).idle ≡ true) ↔ ((w : ℕ) → w < 8 → waits S w ≡ false)
idle_exactly S W area = (
  λ e. idle_none S (eqb-true (served S) 8 (sym (idle_is S W area) ∙ e)),
  λ f. idle_is S W area ∙ eq-eqb (served S) 8 (served_start S ∙ none_first S f 8 (next_of S) (omega arith)),
)

-- the row of a window tells whether its question waits, and the question

same_waits : (S T : List ℕ) (w : ℕ) → row_of T w ≡ row_of S w → waits T w ≡ waits S w
same_waits S T w e = row_waits T w ∙ ap (λ (r : List ℕ). not (eqb (get_or r 0 0) 0)) e ∙ sym (row_waits S w)

same_asked : (S T : List ℕ) (w : ℕ) → row_of T w ≡ row_of S w → asked_by T w ≡ asked_by S w
same_asked S T w e = row_asked T w ∙ ap asking e ∙ sym (row_asked S w)

-- the first turn serves the window
now_served : (S : List ℕ) (w n : ℕ) (os : List Operation) → served S ≡ w → 0 < n → ServedWithin n S w (asked_by S w) (turning ∷ os)
unfolding turns servings serving_in after_run
now_served S w n os e h =
    record {
      earlier = [];
      later = os;
      parted = refl;
      soon = h;
      serves = λ d i. record { window = e i; question = asked_by S (e i) };
      kept = λ k. ap (λ (x : List Operation). row_of (after_run S x) w) (take-nil k);
    }

-- an operation that leaves the row of the window comes first
module _ (S : List ℕ) (w : ℕ) (q : Question) (os : List Operation) where
  placed_first : (n v : ℕ) (p : Question) → row_of (after_place S v p) w ≡ row_of S w → ServedWithin n (after_place S v p) w q os
      → ServedWithin n S w q (placing v p ∷ os)
  unfolding turns servings after_run after_one
  placed_first n v p e r =
      record {
        earlier = placing v p ∷ r.earlier;
        later = r.later;
        parted = ap (λ x. placing v p ∷ x) r.parted;
        soon = r.soon;
        serves = r.serves;
        kept = before;
      }
    where
      before : (k : ℕ) → row_of (after_run S (take k (placing v p ∷ r.earlier))) w ≡ row_of S w
      before zero = refl
      before (suc k) = r.kept k ∙ e

  turned_first : (n : ℕ) → row_of (after_turn S) w ≡ row_of S w → ServedWithin n (after_turn S) w q os → ServedWithin (n + 1) S w q (turning ∷ os)
  unfolding turns servings after_run after_one
  turned_first n e r =
      record {
        earlier = turning ∷ r.earlier;
        later = r.later;
        parted = ap (λ x. turning ∷ x) r.parted;
        soon = omega (arith, r.soon);
        serves = r.serves;
        kept = before;
      }
    where
      before : (k : ℕ) → row_of (after_run S (take k (turning ∷ r.earlier))) w ≡ row_of S w
      before zero = refl
      before (suc k) = r.kept k ∙ e

-- more turns, and an equal question
served_more : (S : List ℕ) (w m n : ℕ) (p q : Question) (os : List Operation) → m ≤ n → p ≡ q → ServedWithin m S w p os → ServedWithin n S w q os
served_more S w m n p q os h e r =
    record {
      earlier = r.earlier;
      later = r.later;
      parted = r.parted;
      soon = omega (arith, h, r.soon);
      serves = λ d. r.serves d ∙ ap (λ (x : Question). record { window = w; question = x }) e;
      kept = r.kept;
    }

-- counting round

round : (x a : ℕ) → (x % 8 + a) % 8 ≡ (x + a) % 8
round x a = omega arith

less_not : (x : ℕ) → x < 8 → x ≡ 8 → ⊥
less_not x h e = omega arith

less_by : (c d : ℕ) → c < d → d - c - 1 + 1 ≤ d
less_by c d h = omega arith

apart : (n c d : ℕ) → c < d → d < 8 → (n + d) % 8 ≡ (n + c) % 8 → ⊥
apart n c d h k e = omega arith

nearer : (n c d v x : ℕ) → c < d → v ≡ (n + c) % 8 → x ≡ (v + 1) % 8 → (x % 8 + (d - c - 1)) % 8 ≡ (n + d) % 8
nearer n c d v x h e f =
    let a : ℕ = d - c - 1 in
    let p : v + 1 + a ≡ v + (1 + a) = omega arith in
    let q : n + c + (1 + a) ≡ n + d = omega arith in
    round x a
    ∙ ap (λ y. (y + a) % 8) f
    ∙ round (v + 1) a
    ∙ ap (λ y. y % 8) p
    ∙ ap (λ y. (y + (1 + a)) % 8) e
    ∙ round (n + c) (1 + a)
    ∙ ap (λ y. y % 8) q

-- a turn that serves another window takes the window that waits nearer: d is how far it is
module _ (S : List ℕ) (w d : ℕ) (l : length S ≡ 65) (t : waits S w ≡ true) (e : w ≡ (next_of S + d) % 8) (h : d < 8) (os : List Operation) where
  turn_to : (c : ℕ) → served S ≡ (next_of S + c) % 8 → c ≤ d
      → ((T : List ℕ) (b : ℕ) → length T ≡ 65 → waits T w ≡ true → w ≡ (next_of T + b) % 8 → b + 1 ≤ d → ServedWithin (b + 1) T w (asked_by T w) os)
      → ServedWithin (d + 1) S w (asked_by S w) (turning ∷ os)
  turn_to c g k r = at (eqb c d) refl
    where
      other : (c ≡ d → ⊥) → ServedWithin (d + 1) S w (asked_by S w) (turning ∷ os)
      other x =
          let y : c < d = omega (arith, k, x) in
          let v : served S < 8 = subst (λ (z : ℕ). z < 8) (sym g) (omega arith) in
          let n : w ≡ served S → ⊥ = λ z. apart (next_of S) c d y h (sym e ∙ z ∙ g) in
          let f : after_turn S ≡ after_serving S (served S) = turn_serves S (λ z. less_not (served S) v z) in
          let z : row_of (after_turn S) w ≡ row_of S w = ap (λ (x : List ℕ). row_of x w) f ∙ serving_row S l (served S) v w n in
          let u : get_or (after_turn S) 0 0 ≡ (served S + 1) % 8 = ap (λ (x : List ℕ). get_or x 0 0) f ∙ serving_next S l (served S) v in
          let b : w ≡ (next_of (after_turn S) + (d - c - 1)) % 8 = e ∙ sym (nearer (next_of S) c d (served S) (get_or (after_turn S) 0 0) y g u) in
          let m : ServedWithin (d - c - 1 + 1) (after_turn S) w (asked_by (after_turn S) w) os =
          r (after_turn S) (d - c - 1) (turn_length S l) (same_waits S (after_turn S) w z ∙ t) b (less_by c d y) in
          turned_first S w (asked_by S w) os d z
          (served_more (after_turn S) w (d - c - 1 + 1) d (asked_by (after_turn S) w) (asked_by S w) os (less_by c d y)
          (same_asked S (after_turn S) w z) m)

      at : (b : Bool) → eqb c d ≡ b → ServedWithin (d + 1) S w (asked_by S w) (turning ∷ os)
      at true x =
          let y : c ≡ d = eqb-true c d x in
          now_served S w (d + 1) os (g ∙ ap (λ z. (next_of S + z) % 8) y ∙ sym e) (omega arith)
      at false x = other (eqb-false c d x)

shorter : (b d n : ℕ) → b + 1 ≤ d → d ≤ n → b < n
shorter b d n h k = omega arith

served_by : (os : List Operation) (S : List ℕ) (w d : ℕ) → length S ≡ 65 → waits S w ≡ true → w ≡ (next_of S + d) % 8 → d < 8 → d < turns os
    → ServedWithin (d + 1) S w (asked_by S w) os
unfolding turns
served_by [] S w d l t e h k = absurd (omega arith)
served_by (placing v q ∷ os) S w d l t e h k =
    let T : List ℕ = after_place S v q in
    let z : row_of T w ≡ row_of S w = place_row S l v q w t in
    let u : get_or T 0 0 ≡ get_or S 0 0 = place_next S l v q in
    placed_first S w (asked_by S w) os (d + 1) v q z
    (served_more T w (d + 1) (d + 1) (asked_by T w) (asked_by S w) os (omega arith) (same_asked S T w z)
    (served_by os T w d (place_length S l v q) (same_waits S T w z ∙ t) (e ∙ ap (λ x. (x % 8 + d) % 8) (sym u)) h k))
served_by (turning ∷ os) S w d l t e h k =
    let c : Met S (next_of S) 8 d = served_met S w d h e t in
    turn_to S w d l t e h os c.steps (served_start S ∙ c.same) c.near
    (λ T b m u f g. served_by os T w b m u f (shorter b d 8 g (omega (arith, h))) (shorter b d (turns os) g (omega (arith, k))))

-- In any state, a window whose question waits is served with it by one of the next eight turns.
pub served_within_eight : (S : List ℕ) (w : ℕ) (os : List Operation) → length S ≡ 65 → w < 8 → waits S w ≡ true → 8 ≤ turns os
    → ServedWithin 8 S w (asked_by S w) os
served_within_eight S w os l h t k =
    let d : ℕ = (w + 8 - next_of S) % 8 in
    served_more S w (d + 1) 8 (asked_by S w) (asked_by S w) os (omega arith) refl
    (served_by os S w d l t (omega arith) (omega arith) (omega (arith, k)))

-- the state after any run has 65 words
pub run_length : (os : List Operation) (S : List ℕ) → length S ≡ 65 → length (after_run S os) ≡ 65
unfolding after_run after_one
run_length [] S l = l
run_length (placing w q ∷ os) S l = run_length os (after_place S w q) (place_length S l w q)
run_length (turning ∷ os) S l = run_length os (after_turn S) (turn_length S l)

-- From the empty state on: after any run, a question that is placed and not refused is served by one of the eight turns that follow,
-- whatever is placed between them.
pub placed_within_eight : (before os : List Operation) (w : ℕ) (q : Question) → place_fault (after_run empty_state before) w ≡ 0 → 8 ≤ turns os
    → ServedWithin 8 (after_place (after_run empty_state before) w q) w q os
unfolding empty_state waiting
placed_within_eight before os w q e k =
    let S : List ℕ = after_run empty_state before in
    let l : length S ≡ 65 = run_length before empty_state refl in
    let h : w < 8 = fault_room S w e in
    let T : List ℕ = after_place S w q in
    let z : row_of T w ≡ waiting q = ap (λ (x : List ℕ). row_of x w) (place_puts S w q e) ∙ placed_row S w q l h in
    let t : waits T w ≡ true = row_waits T w ∙ ap (λ (r : List ℕ). not (eqb (get_or r 0 0) 0)) z in
    let a : asked_by T w ≡ q = row_asked T w ∙ ap asking z in
    served_more T w 8 8 (asked_by T w) q os (omega arith) a (served_within_eight T w os (place_length S l w q) h t k)
