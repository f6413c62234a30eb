-- Laws of the printed lines.
use Prim.Native.Nat.{ℕ, suc, ◌+◌, ◌-◌, ◌%◌, ◌≤◌, ◌<◌}
use mathlib.Core.Path.{◌≡◌, refl, sym, ◌∙◌, ap, ap₂}
use mathlib.Core.List.{List, ◌++◌}
use mathlib.Core.Bool.{Bool, true, false, ◌&&◌, ◌||◌}
use native.Mathlib.Omega.{arith}
use native.Mathlib.Nat.{sub-zero}
use borrow.Author.Tests.{eq-eqb, ne_eqb, eqb-true, lt-ltb, le-ltb, lt-leb, ltb-true, ltb-false}
use lib.Dec.{eqb, leb, ltb}
use lib.ListN.{length, get_or}
use Rattle.std.specs.Counts.{IsPrefixLen}
use Rattle.snapshot.specs.Limits.{area_limit, input_limit}
use Rattle.snapshot.specs.Refusals.{bytes_refusal, rest_refusal, question_refusal}
use Rattle.snapshot.specs.Sizes.{question_size, reach_size}
use Rattle.snapshot.specs.Words.{kind_of, pay_of}
use Rattle.snapshot.specs.Records.{Snapshot}
use Rattle.check_rules.specs.Verdict.{empty}
use Rattle.accept.specs.Post.{Checked, Judged}
use Rattle.accept.proofs.Accepted.{by_test}
use Rattle.accept.proofs.Bools.{and_left}
use Rattle.printing.specs.Output.{Put}
use Rattle.printing.proofs.Laws.{front_counts}
use Rattle.find_path_spec.specs.declared.Question.{Question}
use Rattle.find_path_spec.specs.Report.{refused}
use Rattle.find_path_spec.specs.Line.{bytes_of, line_in, line_of, routed_line_of}
use Rattle.answer.specs.checked.Lines.{LineOn}
use Rattle.reach.specs.declared.parts.Viewer.{Viewer}
use Rattle.reach.specs.parts.Reach.{reach_of, reach_line}
use Rattle.reach.specs.Reached.{ReachLineOn}
use Rattle.printer.specs.route.Routed.{RoutedOn}
use Rattle.printer.specs.Printed.{is_question, is_head, first_from, questions_at, is_argument, whole_at, question_at, asks_route, reach_at, viewer_at}
use Rattle.printer.specs.Printed.{line_at, next_at, input_fault, Printed}

-- faults of an input

module _ (B : List ℕ) where
  pub too_long : input_limit < length B → bytes_refusal ≡ input_fault B
  unfolding input_fault
  too_long h = rw (input_fault, lt-ltb _ _ h)

  pub a_rest : length B ≤ input_limit → (length B % 4 ≡ 0 → ⊥) → rest_refusal ≡ input_fault B
  unfolding input_fault
  a_rest h p = rw (input_fault, le-ltb _ _ h, ne_eqb _ _ p)

  pub no_fault : length B ≤ input_limit → length B % 4 ≡ 0 → 0 ≡ input_fault B
  unfolding input_fault
  no_fault h p = rw (input_fault, le-ltb _ _ h, eq-eqb _ _ p)

  pub fault_free : 0 ≡ input_fault B → length B ≤ input_limit
  fault_free e = by_test (ltb input_limit (length B)) (λ t. absurd (omega (arith, e, too_long (ltb-true _ _ t)))) (λ t. ltb-false _ _ t)

-- where the questions begin

module _ (W : List ℕ) where
  pub first_start : questions_at W ≡ first_from W 0 (length W - 0)
  unfolding questions_at
  first_start = rw sub-zero

  module _ (i : ℕ) (e : questions_at W ≡ first_from W i (length W - i)) where
    left : i < length W → length W - i ≡ suc (length W - (i + 1))
    left h = omega arith

    pub first_here : (b : Bool) → i < length W → b ≡ is_head (kind_of (get_or W i 0)) → b ≡ true → i ≡ questions_at W
    unfolding first_from
    first_here b h q t = let z : is_head (kind_of (get_or W i 0)) ≡ true = sym q ∙ t in sym (e ∙ rw (left h, first_from, z))

    pub first_later : (b : Bool) → i < length W → b ≡ is_head (kind_of (get_or W i 0)) → b ≡ false
        → questions_at W ≡ first_from W (i + 1) (length W - (i + 1))
    unfolding first_from
    first_later b h q t = let z : is_head (kind_of (get_or W i 0)) ≡ false = sym q ∙ t in e ∙ rw (left h, first_from, z)

    pub first_none : length W ≤ i → i ≡ questions_at W
    unfolding first_from
    first_none h = let z : length W - i ≡ 0 = omega arith in sym (e ∙ rw (z, first_from))

-- questions

pub whole_same : (W : List ℕ) (i : ℕ) (h a b c d e f : Bool) → h ≡ is_question (kind_of (get_or W i 0)) → a ≡ is_argument W (i + 1)
    → b ≡ is_argument W (i + 2)
    → c ≡ is_argument W (i + 3) → d ≡ is_argument W (i + 4) → e ≡ is_argument W (i + 5) → f ≡ is_argument W (i + 6)
    → (h && ((a && b) && ((c && d) && ((e && f) && leb (i + question_size) (length W))))) ≡ whole_at W i
unfolding whole_at
whole_same W i h a b c d e f p q r s t u v =
    ap₂ (λ x y. x && y) p
    (ap₂ (λ x y. x && y) (ap₂ (λ x y. x && y) q r)
    (ap₂ (λ x y. x && y) (ap₂ (λ x y. x && y) s t) (ap (λ x. x && leb (i + question_size) (length W)) (ap₂ (λ x y. x && y) u v))))

none_false : (a b c d : Bool) → false ≡ (a && (b && (c && (d && false))))
none_false false b c d = refl
none_false true false c d = refl
none_false true true false d = refl
none_false true true true false = refl
none_false true true true true = refl

pub not_whole : (W : List ℕ) (i : ℕ) → length W ≤ i → false ≡ whole_at W i
unfolding whole_at
not_whole W i h =
    let g : length W < i + question_size = omega arith in
    rw (whole_at, lt-leb _ _ g)
    (none_false (is_question (kind_of (get_or W i 0))) (is_argument W (i + 1) && is_argument W (i + 2))
    (is_argument W (i + 3) && is_argument W (i + 4))
    (is_argument W (i + 5) && is_argument W (i + 6)))

pub question_same : (W : List ℕ) (i ns d m p o n f : ℕ) → ns ≡ get_or W (i + 1) 0 → d ≡ pay_of (get_or W i 0) → m ≡ get_or W (i + 2) 0
    → p ≡ get_or W (i + 3) 0 → o ≡ get_or W (i + 4) 0 → n ≡ get_or W (i + 6) 0 → f ≡ get_or W (i + 5) 0
    → ◌≡◌ {A = Question} (record {
      query = record {
        ns = ns;
        definition = record { 0 = d };
        from = record { 0 = m };
        prefix =
            p;
        options = o;
        limit = n;
      };
      fuel = f;
    }) (question_at W i)
unfolding question_at
question_same W i ns d m p o n f a b c e g k h =
    λ j. record {
      query = record { ns = a j; definition = record { 0 = b j }; from = record { 0 = c j }; prefix = e j; options = g j; limit = k j };
      fuel = h j;
    }

-- questions for a reach

pub reach_same : (W : List ℕ) (i : ℕ) (k a b c d : Bool) → k ≡ eqb (kind_of (get_or W i 0)) 15 → a ≡ is_argument W (i + 1) → b ≡ is_argument W (i + 2)
    → c ≡ is_argument W (i + 3) → d ≡ is_argument W (i + 4)
    → (k && ((a && b) && ((c && d) && leb (i + reach_size) (length W)))) ≡ reach_at W i
unfolding reach_at
reach_same W i k a b c d p q r s t =
    ap₂ (λ x y. x && y) p
    (ap₂ (λ x y. x && y) (ap₂ (λ x y. x && y) q r) (ap (λ x. x && leb (i + reach_size) (length W)) (ap₂ (λ x y. x && y) s t)))

pub not_reach : (W : List ℕ) (i : ℕ) → length W ≤ i → false ≡ reach_at W i
unfolding reach_at
not_reach W i h =
    let g : length W < i + reach_size = omega arith in
    rw (reach_at, lt-leb _ _ g)
    (none_false true (eqb (kind_of (get_or W i 0)) 15) (is_argument W (i + 1) && is_argument W (i + 2))
    (is_argument W (i + 3) && is_argument W (i + 4)))

pub viewer_same : (W : List ℕ) (i m p o f n : ℕ) → m ≡ pay_of (get_or W i 0) → p ≡ get_or W (i + 1) 0 → o ≡ get_or W (i + 2) 0
    → f ≡ get_or W (i + 3) 0 → n ≡ get_or W (i + 4) 0
    → ◌≡◌ {A = Viewer} (record { from = record { 0 = m }; prefix = p; options = o; fuel = f; limit = n }) (viewer_at W i)
unfolding viewer_at
viewer_same W i m p o f n a b c d e = λ j. record { from = record { 0 = a j }; prefix = b j; options = c j; fuel = d j; limit = e j }

-- one place has one kind
both_kinds : (k : ℕ) (a b : Bool) → (is_question k && a) ≡ true → (eqb k 15 && b) ≡ true → ⊥
both_kinds k a b p q =
    let y = eqb-true k 15 (and_left (eqb k 15) b q) in
    let m : (eqb k 12 || eqb k 14) ≡ true = and_left (is_question k) a p in
    by_test (eqb k 12)
    (λ t. let x = eqb-true k 12 t in omega (arith, x, y))
    (λ t. let h : eqb k 14 ≡ true = rw t at m in let x = eqb-true k 14 h in omega (arith, x, y))

pub reach_no_question : (W : List ℕ) (i : ℕ) → reach_at W i ≡ true → whole_at W i ≡ false
unfolding whole_at reach_at
reach_no_question W i r = by_test (whole_at W i) (λ w. absurd (both_kinds (kind_of (get_or W i 0)) _ _ w r)) (λ w. w)

-- the line of a question

pub refusal_counts : {old out : List ℕ} {n : ℕ} (k : ℕ) → ((s : Snapshot) (from : ℕ) → Put old 0 (line_in s from (refused k) ++ bytes_of "\n") out n)
    → IsPrefixLen n out
refusal_counts k p = front_counts (p empty 0)

-- a turn

module _ (W S : List ℕ) (c : Checked) (i : ℕ) (A out : List ℕ) where
  pub turn_refused : (old : List ℕ) (n : ℕ) (b r : Bool) → r ≡ reach_at W i → r ≡ false → b ≡ whole_at W i → b ≡ false → Judged S A c
      → ((s : Snapshot) (from : ℕ) → Put old 0 (line_in s from (refused question_refusal) ++ bytes_of "\n") out n)
      → Printed W S c i A old out (record { bytes = n; next = length W })
  unfolding line_at next_at
  turn_refused old n b r g u e t j p =
      let f : whole_at W i ≡ false = sym e ∙ t in
      let x : reach_at W i ≡ false = sym g ∙ u in
      let w = p empty 0 in
      record {
        rest = w.rest;
        line = w.same ∙ sym (rw (line_at, f, x));
        counts = front_counts w;
        next = sym (rw (next_at, f, x));
        checked = j;
      }

  module _ (old : List ℕ) (n : ℕ) (b r : Bool) (q : Question) (e : b ≡ whole_at W i) (t : b ≡ true) (h : q ≡ question_at W i)
      (g : r ≡ asks_route W i) where
    whole : whole_at W i ≡ true
    whole = sym e ∙ t

    pub turn_line : r ≡ false → LineOn S q c A old out n → Printed W S c i A old out (record { bytes = n; next = i + question_size })
    unfolding line_at next_at
    turn_line u p =
        let k : asks_route W i ≡ false = sym g ∙ u in
        record {
          rest = p.line.rest;
          line = p.line.same ∙ ap (λ x. line_of S x ++ bytes_of "\n") h ∙ sym (rw (line_at, whole, k));
          counts = front_counts p.line;
          next = sym (rw (next_at, whole));
          checked = p.checked;
        }

    pub turn_route : r ≡ true → RoutedOn S q c A old out n → Printed W S c i A old out (record { bytes = n; next = i + question_size })
    unfolding line_at next_at
    turn_route u p =
        let k : asks_route W i ≡ true = sym g ∙ u in
        record {
          rest = p.line.rest;
          line = p.line.same ∙ ap (λ x. routed_line_of S x ++ bytes_of "\n") h ∙ sym (rw (line_at, whole, k));
          counts = front_counts p.line;
          next = sym (rw (next_at, whole));
          checked = p.checked;
        }

  pub turn_reach : (old : List ℕ) (n : ℕ) (r : Bool) (v : Viewer) → r ≡ reach_at W i → r ≡ true → v ≡ viewer_at W i → ReachLineOn S v c A old out n
      → Printed W S c i A old out (record { bytes = n; next = i + reach_size })
  unfolding line_at next_at
  turn_reach old n r v e t h p =
      let x : reach_at W i ≡ true = sym e ∙ t in
      let f = reach_no_question W i x in
      record {
        rest = p.line.rest;
        line = p.line.same ∙ ap (λ y. reach_line (reach_of S area_limit y) ++ bytes_of "\n") h ∙ sym (rw (line_at, f, x));
        counts = front_counts p.line;
        next = sym (rw (next_at, f, x));
        checked = p.checked;
      }

pub next_more : (W : List ℕ) (i n : ℕ) → i < length W → n ≡ next_at W i → i < n
unfolding next_at
next_more W i n h e =
    by_test (whole_at W i)
    (λ t. let f : n ≡ i + question_size = e ∙ rw (next_at, t) in omega arith)
    (λ t.
    by_test (reach_at W i)
    (λ u. let f : n ≡ i + reach_size = e ∙ rw (next_at, t, u) in omega arith)
    (λ u. let f : n ≡ length W = e ∙ rw (next_at, t, u) in omega arith))
