-- Laws of the words that a state stands for.
use Prim.Native.Nat.{ℕ, suc, ◌+◌, ◌*◌, ◌%◌, ◌≤◌, ◌<◌}
use mathlib.Core.Path.{◌≡◌, refl, sym, ◌∙◌, ap, ap₂}
use mathlib.Core.Bool.{not}
use mathlib.Core.List.{List, [], ◌∷◌, ◌++◌, append_assoc, append-nil}
use native.Mathlib.Omega.{arith}
use native.Mathlib.Numerals.{add-one}
use lib.Dec.{eqb}
use lib.ListN.{length, get_or, take, drop, set, length-append, length-drop}
use lib.Seq.{length-take-le, take_all, take-suc, split_at, set_split, take-suc-set, take-add, drop-drop, drop-cons, take_at, drop_at, get_or_at}
use mir.Val.{Val}
use denote.Laws.{Is}
use denote.Struct.Laws as LL
use Rattle.find_path_spec.specs.declared.Question.{Question}
use Rattle.reports.specs.questions.Questions.{question_of}
use Rattle.windows.specs.declared.state.rows.Row.{Row}
use Rattle.windows.specs.declared.state.rows.Windows.{Windows}
use Rattle.windows.specs.rules.States.{row_of, with_row, waits, asked_by, after_serving}
use Rattle.windows.specs.state.Words.{empty_row, row_words, rows_words, words_of}
use Rattle.windows.specs.contracts.state.rows.Windows as T
use Rattle.windows.proofs.state.rows.Windows.TheLaws as T'

-- what a state's type says
pub rows_eight : (s : Windows) (vs : List Val) → Is T.the_row s vs → length s.rows ≡ 8
rows_eight s vs g = (LL.owed T.the_type T'.the_laws s vs g).1.0.1.0.1

pub row_length : (r : Row) → length (row_words r) ≡ 8
unfolding row_words
row_length r = refl

pub rows_append : (P Q : List Row) → rows_words (P ++ Q) ≡ rows_words P ++ rows_words Q
unfolding rows_words
rows_append [] Q = refl
rows_append (r ∷ P) Q = ap (λ x. row_words r ++ x) (rows_append P Q) ∙ sym (append_assoc (row_words r) (rows_words P) (rows_words Q))

pub rows_length : (P : List Row) → length (rows_words P) ≡ 8 * length P
unfolding rows_words
rows_length [] = refl
rows_length (r ∷ P) = length-append (row_words r) (rows_words P) ∙ (omega (arith, row_length r, rows_length P))

-- the row of a window stands between the rows before it and those after it
module _ (s : Windows) (w : ℕ) (d : Row) (h : w < length s.rows) where
  abbrev row : Row
  row = get_or s.rows w d

  abbrev front : List ℕ
  front = s.next ∷ rows_words (take w s.rows)

  abbrev after : List ℕ
  after = rows_words (drop (suc w) s.rows)

  front_length : length front ≡ 1 + 8 * w
  front_length = omega (arith, rows_length (take w s.rows), length-take-le w s.rows (omega (arith, h)))

  around : (r : Row) → s.next ∷ rows_words (take w s.rows ++ (r ∷ drop (suc w) s.rows)) ≡ front ++ (row_words r ++ after)
  unfolding rows_words
  around r = ap (λ x. s.next ∷ x) (rows_append (take w s.rows) (r ∷ drop (suc w) s.rows))

  parted : words_of s ≡ front ++ (row_words row ++ after)
  unfolding words_of
  parted = ap (λ x. s.next ∷ rows_words x) (split_at s.rows w d h) ∙ around row

  pub word_waits : not (eqb row.waits 0) ≡ waits (words_of s) w
  unfolding waits row_words
  word_waits =
      ap (λ (x : ℕ). not (eqb x 0))
      (sym (ap (λ x. get_or x (1 + 8 * w) 0) parted ∙ get_or_at front row.waits _ 0 (1 + 8 * w) front_length))

  beyond : drop (1 + 8 * w + 8) (front ++ (row_words row ++ after)) ≡ after
  beyond =
      ap (drop (1 + 8 * w + 8)) (sym (append_assoc front (row_words row) after))
      ∙ drop_at (front ++ row_words row) after (1 + 8 * w + 8)
      (length-append front (row_words row) ∙ (omega (arith, front_length, row_length row)))

  pub words_put : (r : Row) → words_of (record { next = s.next; rows = set s.rows w r }) ≡ with_row (words_of s) w (row_words r)
  unfolding words_of with_row
  words_put r =
      ap (λ x. s.next ∷ rows_words x) (set_split s.rows w r h)
      ∙ around r
      ∙ ap₂ (λ x y. x ++ (row_words r ++ y)) (sym (take_at front (row_words row ++ after) (1 + 8 * w) front_length)) (sym beyond)
      ∙ ap (λ x. take (1 + 8 * w) x ++ (row_words r ++ drop (1 + 8 * w + 8) x)) (sym parted)

  abbrev asked : Question
  asked =
      record {
        query = record {
          ns = row.ns;
          definition = record { 0 = row.definition };
          from = record { 0 = row.from };
          prefix =
              row.prefix;
          options = row.options;
          limit = row.limit;
        };
        fuel = row.fuel;
      }

  pub word_asked : asked ≡ asked_by (words_of s) w
  unfolding asked_by row_words
  word_asked =
      let f : List ℕ = front ++ (row.waits ∷ []) in
      let t : List ℕ = row.ns ∷ row.definition ∷ row.from ∷ row.prefix ∷ row.options ∷ row.fuel ∷ row.limit ∷ after in
      let l : length f ≡ 1 + 8 * w + 1 = length-append front (row.waits ∷ []) ∙ (omega (arith, front_length)) in
      ap (λ (x : List ℕ). question_of x) (sym (drop_at f t (1 + 8 * w + 1) l))
      ∙ ap (λ (x : List ℕ). question_of (drop (1 + 8 * w + 1) x)) (append_assoc front (row.waits ∷ []) t ∙ sym parted)

pub words_served : (s t : Windows) (w : ℕ) → words_of t ≡ with_row (words_of s) w (row_words empty_row)
    → words_of (record { next = (w + 1) % 8; rows = t.rows }) ≡ after_serving (words_of s) w
unfolding words_of after_serving row_words empty_row
words_served s t w e = ap (λ x. set x 0 ((w + 1) % 8)) e

-- words taken apart, row by row

word_read : (S : List ℕ) (n k m : ℕ) → m ≡ suc k → k < length S → take (suc n) (drop k S) ≡ get_or S k 0 ∷ take n (drop m S)
word_read S n k m e h = ap (take (suc n)) (drop-cons S k 0 h) ∙ ap (λ x. get_or S k 0 ∷ take n (drop x S)) (sym e)

module _ (S : List ℕ) (w : ℕ) (l : length S ≡ 65) (h : w < 8) where
  abbrev word : ℕ → ℕ
  word k = get_or S (1 + 8 * w + k) 0

  read : (n k : ℕ) → k < 8 → take (suc n) (drop (1 + 8 * w + k) S) ≡ word k ∷ take n (drop (1 + 8 * w + (k + 1)) S)
  read n k i = word_read S n (1 + 8 * w + k) (1 + 8 * w + (k + 1)) (omega arith) (omega arith)

  pub row_read : (a : ℕ) → a ≡ 1 + 8 * w
      → get_or S a 0 ∷ word 1 ∷ word 2 ∷ word 3 ∷ word 4 ∷ word 5 ∷ word 6 ∷ word 7 ∷ [] ≡ row_of S w
  unfolding row_of
  row_read a e =
      let z : 1 + 8 * w + 0 ≡ 1 + 8 * w = omega arith in
      ap (λ x. get_or S x 0 ∷ word 1 ∷ word 2 ∷ word 3 ∷ word 4 ∷ word 5 ∷ word 6 ∷ word 7 ∷ []) (e ∙ sym z)
      ∙ sym
      (read 7 0 (omega arith)
      ∙ ap (λ x. word 0 ∷ x)
      (read 6 1 (omega arith)
      ∙ ap (λ x. word 1 ∷ x)
      (read 5 2 (omega arith)
      ∙ ap (λ x. word 2 ∷ x)
      (read 4 3 (omega arith)
      ∙ ap (λ x. word 3 ∷ x)
      (read 3 4 (omega arith)
      ∙ ap (λ x. word 4 ∷ x)
      (read 2 5 (omega arith) ∙ ap (λ x. word 5 ∷ x) (read 1 6 (omega arith) ∙ ap (λ x. word 6 ∷ x) (read 0 7 (omega arith)))))))))
      ∙ ap (λ x. take 8 (drop x S)) z

pub apart_next : (S : List ℕ) (R : List Row) (r : Row) (i : ℕ) → i < length R → rows_words (take i R) ≡ take (8 * i) (drop 1 S)
    → row_words r ≡ row_of S i
    → rows_words (take (i + 1) (set R i r)) ≡ take (8 * (i + 1)) (drop 1 S)
unfolding row_of rows_words
apart_next S R r i h e k =
    let n : 8 * (i + 1) ≡ 8 * i + 8 = omega arith in
    ap (λ x. rows_words (take x (set R i r))) (add-one i)
    ∙ ap rows_words (take-suc-set R i r h)
    ∙ rows_append (take i R) (r ∷ [])
    ∙ ap₂ (λ x y. x ++ (y ++ [])) e k
    ∙ ap (λ x. take (8 * i) (drop 1 S) ++ x) (append-nil (take 8 (drop (1 + 8 * i) S)))
    ∙ ap (λ x. take (8 * i) (drop 1 S) ++ take 8 x) (sym (drop-drop (8 * i) 1 S))
    ∙ sym (take-add (8 * i) 8 (drop 1 S))
    ∙ ap (λ x. take x (drop 1 S)) (sym n)

pub apart_done : (S : List ℕ) (R : List Row) (i : ℕ) → length S ≡ 65 → length R ≡ 8 → i ≤ 8 → 8 ≤ i → rows_words (take i R) ≡ take (8 * i) (drop 1 S)
    → words_of (record { next = get_or S 0 0; rows = R }) ≡ S
unfolding words_of
apart_done S R i l m h k e =
    let n : i ≡ 8 = omega arith in
    let f : rows_words R ≡ drop 1 S =
    ap rows_words (sym (take_all i R (omega arith)))
    ∙ e
    ∙ ap (λ x. take (8 * x) (drop 1 S)) n
    ∙ take_all 64 (drop 1 S) (omega (arith, length-drop 1 S)) in
    ap (λ x. get_or S 0 0 ∷ x) f ∙ sym (drop-cons S 0 0 (omega arith))

-- and put together

pub together_next : (S T : List ℕ) (R : List Row) (d : Row) (n i : ℕ) → length S ≡ 65 → i < 8 → i < length R
    → take (1 + 8 * i) S ≡ n ∷ rows_words (take i R)
    → T ≡ with_row S i (row_words (get_or R i d)) → take (1 + 8 * (i + 1)) T ≡ n ∷ rows_words (take (i + 1) R)
unfolding with_row rows_words
together_next S T R d n i l h k e t =
    let r : List ℕ = row_words (get_or R i d) in
    let f : List ℕ = take (1 + 8 * i) S ++ r in
    let m : length f ≡ 1 + 8 * (i + 1) =
    length-append (take (1 + 8 * i) S) r ∙ (omega (arith, length-take-le (1 + 8 * i) S (omega arith), row_length (get_or R i d))) in
    ap (take (1 + 8 * (i + 1))) (t ∙ sym (append_assoc (take (1 + 8 * i) S) r (drop (1 + 8 * i + 8) S)))
    ∙ take_at f (drop (1 + 8 * i + 8) S) (1 + 8 * (i + 1)) m
    ∙ ap₂ (λ x y. x ++ y) e (sym (append-nil r))
    ∙ ap (λ x. n ∷ x) (sym (rows_append (take i R) (get_or R i d ∷ [])))
    ∙ ap (λ x. n ∷ rows_words x) (sym (take-suc R i d k))
    ∙ ap (λ x. n ∷ rows_words (take x R)) (sym (add-one i))

pub together_done : (s : Windows) (T : List ℕ) (i : ℕ) → length T ≡ 65 → length s.rows ≡ 8 → i ≤ 8 → 8 ≤ i
    → take (1 + 8 * i) T ≡ s.next ∷ rows_words (take i s.rows) → T ≡ words_of s
unfolding words_of
together_done s T i l m h k e =
    sym (take_all (1 + 8 * i) T (omega arith)) ∙ e ∙ ap (λ x. s.next ∷ rows_words x) (take_all i s.rows (omega arith))

-- the words of a state are those of no other

rows_same : (P Q : List Row) → length P ≡ length Q → rows_words P ≡ rows_words Q → P ≡ Q
unfolding rows_words row_words
rows_same [] [] l e = refl
rows_same [] (q ∷ Q) l e = absurd (omega arith)
rows_same (p ∷ P) [] l e = absurd (omega arith)
rows_same (p ∷ P) (q ∷ Q) l e =
    λ i. record {
      waits = ap (λ x. get_or x 0 0) e i;
      ns = ap (λ x. get_or x 1 0) e i;
      definition = ap (λ x. get_or x 2 0) e i;
      from = ap (λ x. get_or x 3 0) e i;
      prefix = ap (λ x. get_or x 4 0) e i;
      options = ap (λ x. get_or x 5 0) e i;
      fuel = ap (λ x. get_or x 6 0) e i;
      limit = ap (λ x. get_or x 7 0) e i;
    }
    ∷ rows_same P Q (omega arith) (ap (drop 8) e) i

pub same_state : (s t : Windows) → length s.rows ≡ length t.rows → words_of s ≡ words_of t → s ≡ t
unfolding words_of
same_state s t l e = λ i. record { next = ap (λ x. get_or x 0 0) e i; rows = rows_same s.rows t.rows l (ap (drop 1) e) i }
