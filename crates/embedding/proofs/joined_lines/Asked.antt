-- A question behind the words of a snapshot: the printer has one line for it, that of the question on these words.
use Prim.Native.Nat.{ℕ, zero, suc, ◌+◌, ◌*◌, ◌/◌, ◌≤◌, ◌<◌}
use mathlib.Core.Path.{◌≡◌, refl, sym, ◌∙◌, ap}
use mathlib.Core.List.{List, [], ◌∷◌, ◌++◌}
use mathlib.Core.Bool.{true, false}
use native.Mathlib.Omega.{arith}
use borrow.Author.Tests.{lt-ltb, le-ltb, le-leb}
use lib.Dec.{eqb, ltb, leb}
use lib.ListN.{length, get_or, take, length-append, get_or-append}
use lib.Seq.{get_or-append-add, take-append_seam}
use Rattle.snapshot.specs.Sizes.{question_size}
use Rattle.snapshot.specs.Words.{kind_of, pay_of}
use Rattle.snapshot.specs.Records.{Snapshot}
use Rattle.check_rules.specs.Verdict.{accept, verdict}
use Rattle.printing.specs.Input.{words_in}
use Rattle.find_path_spec.specs.declared.Question.{Question}
use Rattle.find_path_spec.specs.Line.{line_of}
use Rattle.printer.specs.Printed.{is_head, first_from, questions_at, whole_at, question_at, line_at, next_at, lines_from, lines_of, lines_unless}
use Rattle.printer.specs.Printed.{input_fault}
use Rattle.printer.specs.Printed.{printed}
use Rattle.printer.proofs.Laws.{no_fault, question_same}
use Rattle.embedding.specs.joined_lines.Inputs.{number_limit, question_words, Writable, Asks, Room}
use Rattle.embedding.proofs.joined_lines.Heads.{Free, accepted_free, first_skips}

head_kind : (d : ℕ) → d < number_limit → kind_of (12 * number_limit + d) ≡ 12
head_kind d h = omega arith

head_pay : (d : ℕ) → d < number_limit → pay_of (12 * number_limit + d) ≡ d
head_pay d h = omega arith

no_kind : (n : ℕ) → n < number_limit → kind_of n ≡ 0
no_kind n h = omega arith

module _ (W : List ℕ) (s : Snapshot) (accepted : verdict W ≡ accept s) (q : Question) (f : Writable q) where
  T : List ℕ
  T = W ++ question_words q

  long : length T ≡ length W + question_size
  unfolding T question_words
  long = length-append W (question_words q)

  -- the words of the question
  word_at : (i : ℕ) → get_or T (length W + i) 0 ≡ get_or (question_words q) i 0
  unfolding T
  word_at i = get_or-append-add W (question_words q) i 0

  head_at_lem : get_or T (length W) 0 ≡ 12 * number_limit + q.query.definition.0
  unfolding question_words
  head_at_lem = ap (λ i. get_or T i 0) (omega arith) ∙ word_at 0

  begins : questions_at T ≡ length W
  unfolding questions_at T first_from
  begins =
      let free : (j : ℕ) → 0 ≤ j → j < 0 + length W → Free T j = λ j h g.
      let l : j < length W = omega arith in
      ap (λ w. is_head (kind_of w)) (get_or-append W (question_words q) 0 j l) ∙ accepted_free W s accepted j l in
      let n : 0 + length W ≡ length W = omega arith in
      let here : is_head (kind_of (get_or T (0 + length W) 0)) ≡ true =
      ap (λ i. is_head (kind_of (get_or T i 0))) n ∙ ap (λ w. is_head (kind_of w)) head_at_lem ∙ ap is_head (head_kind _ f.definition) in
      let l : length T ≡ length W + suc 6 = long ∙ omega arith in
      ap (first_from T 0) l
      ∙ first_skips T (length W) (suc 6) 0 free
      ∙ rw (first_from, here) n

  whole : whole_at T (length W) ≡ true
  unfolding whole_at question_words
  whole =
      let h : kind_of (get_or T (length W) 0) ≡ 12 = ap kind_of head_at_lem ∙ head_kind _ f.definition in
      let a : kind_of (get_or T (length W + 1) 0) ≡ 0 = ap kind_of (word_at 1) ∙ no_kind _ f.ns in
      let b : kind_of (get_or T (length W + 2) 0) ≡ 0 = ap kind_of (word_at 2) ∙ no_kind _ f.from in
      let c : kind_of (get_or T (length W + 3) 0) ≡ 0 = ap kind_of (word_at 3) ∙ no_kind _ f.prefix in
      let d : kind_of (get_or T (length W + 4) 0) ≡ 0 = ap kind_of (word_at 4) ∙ no_kind _ f.options in
      let e : kind_of (get_or T (length W + 5) 0) ≡ 0 = ap kind_of (word_at 5) ∙ no_kind _ f.fuel in
      let g : kind_of (get_or T (length W + 6) 0) ≡ 0 = ap kind_of (word_at 6) ∙ no_kind _ f.limit in
      let r : length W + question_size ≤ length T = omega (arith, long) in
      let k : leb (length W + question_size) (length T) ≡ true = le-leb _ _ r in
      rw (whole_at, h, a, b, c, d, e, g, k)

  same : question_at T (length W) ≡ q
  unfolding question_words
  same =
      sym (question_same T (length W) q.query.ns q.query.definition.0 q.query.from.0 q.query.prefix
      q.query.options q.query.limit q.fuel
      (sym (word_at 1)) (sym (ap pay_of head_at_lem ∙ head_pay _ f.definition)) (sym (word_at 2)) (sym (word_at 3)) (sym (word_at 4))
      (sym (word_at 6)) (sym (word_at 5)))

  line : line_at T W (length W) ≡ line_of W q
  unfolding line_at
  line =
      let h : eqb (kind_of (get_or T (length W) 0)) 14 ≡ false = ap (λ w. eqb (kind_of w) 14) head_at_lem
      ∙ ap (λ k. eqb k 14) (head_kind _ f.definition) in
      rw (line_at, whole, h) (ap (line_of W) same)

  next_at_lem : next_at T (length W) ≡ length W + question_size
  unfolding next_at
  next_at_lem = rw (next_at, whole)

  last_lines_lem : (m i : ℕ) → length T ≤ i → lines_from m T W i ≡ []
  unfolding lines_from
  last_lines_lem zero i h = refl
  last_lines_lem (suc m) i h = rw (lines_from, le-ltb i (length T) h)

  lines : lines_of T ≡ line_of W q ∷ []
  unfolding lines_of T lines_from
  lines =
      let b = begins in
      let l : length T ≡ suc (length W + 6) = long ∙ omega arith in
      let t : take (length W) T ≡ W = take-append_seam W (question_words q) in
      let r : length W < length T = omega (arith, long) in
      let i : ltb (length W) (length T) ≡ true = lt-ltb _ _ r in
      ap (λ k. lines_from (length T) T (take k T) k) b
      ∙ ap (λ X. lines_from (length T) T X (length W)) t
      ∙ ap (λ m. lines_from m T W (length W)) l
      ∙ rw (lines_from, i) (ap (λ x. x ∷ lines_from (length W + 6) T W (next_at T (length W))) line
      ∙ ap (λ xs. line_of W q ∷ xs) (last_lines_lem (length W + 6) (next_at T (length W)) (omega (arith, next_at_lem, long))))

  -- The printer has one line for the input: that of the question on the words.
  pub asked_printed : (B : List ℕ) → Asks B W q → Room W → printed B ≡ line_of W q ∷ []
  unfolding printed lines_unless T
  asked_printed B h room =
      let n : length B ≡ 4 * length T = h.size in
      let l = long in
      let z : 0 ≡ input_fault B = no_fault B (omega (arith, n, l, room)) (omega (arith, n)) in
      let d : length B / 4 ≡ length T = omega (arith, n) in
      ap (lines_unless B) (sym z) ∙ ap (λ n. lines_of (words_in B n)) d ∙ ap lines_of h.words ∙ lines
