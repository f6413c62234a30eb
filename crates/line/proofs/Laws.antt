-- Laws of the texts that a line is made of.
use Prim.Native.Nat.{ℕ, zero, suc, ◌+◌, ◌*◌, ◌/◌, ◌%◌, ◌≤◌, ◌<◌}
use mathlib.Core.Path.{◌≡◌, refl, sym, ◌∙◌, ap, ap₂}
use mathlib.Core.List.{List, [], ◌∷◌, ◌++◌, map, append_assoc, append-nil}
use mathlib.Core.Bool.{Bool, true, false, ◌||◌}
use native.Mathlib.Omega.{arith}
use native.Mathlib.Numerals.{add-one}
use borrow.Author.Tests.{eq-eqb, ne_eqb, lt-ltb, le-ltb, ltb-true, ltb-false}
use lib.Dec.{eqb, ltb}
use lib.ListN.{length, get_or, take, length-take, length-drop, get_or-eq_default}
use lib.Seq.{take-suc, take_all}
use Rattle.snapshot.specs.Words.{pay_of, words_of, text_at}
use Rattle.snapshot.specs.Records.{Name, Snapshot, name_at}
use Rattle.snapshot.specs.Layouts.{name_head, snap_of}
use Rattle.snapshot.specs.declared.layout.Layout.{Layout}
use Rattle.snapshot.proofs.Laws.{get_d_rows, length_rows, rows_part}
use Rattle.keywords.specs.Keywords.{is_raw}
use Rattle.keywords.proofs.Laws.{raw_short}
use Rattle.accept.specs.Post.{Reads}
use Rattle.accept.proofs.Accepted.{by_test}
use Rattle.printing.specs.Output as P
use Rattle.printing.proofs.Laws.{decimal_last, decimal_more as P-more}
use Rattle.hir_def.specs.Items.{crate_of, crate_data}
use Rattle.find_path_spec.specs.declared.Report.{Report}
use Rattle.find_path_choice.specs.Choices.{name_data, name_len}
use Rattle.find_path_spec.specs.Report.{refused}
use Rattle.find_path_spec.specs.Line.{bytes_of, unpacked, text_of, edition_in, written_of, decimal_to, decimal, joined, prefix_parts, path_text}
use Rattle.find_path_spec.specs.Line.{line_parts}
use Rattle.find_path_spec.specs.Line.{line_in}
use Rattle.find_path_spec.proofs.laws.Lines.{long, decimal_digit, decimal_more}
use Rattle.line.specs.Joints.{joint_if}

-- texts in words, three bytes a word

pub length_unpacked : (ws : List ℕ) → length (unpacked ws) ≡ 3 * length ws
unfolding unpacked
length_unpacked [] = refl
length_unpacked (w ∷ ws) = let e = length_unpacked ws in omega arith

-- the bytes of a word
pub part : ℕ → ℕ → ℕ
part w zero = w % 256
part w (suc zero) = w / 256 % 256
part w (suc (suc k)) = w / 65536 % 256

part_zero : (k : ℕ) → part 0 k ≡ 0
unfolding part
part_zero zero = refl
part_zero (suc zero) = refl
part_zero (suc (suc k)) = refl

pub byte_at : (ws : List ℕ) (i : ℕ) → part (get_or ws (i / 3) 0) (i % 3) ≡ get_or (unpacked ws) i 0
unfolding unpacked part
byte_at [] i = part_zero (i % 3)
byte_at (w ∷ ws) zero = refl
byte_at (w ∷ ws) (suc zero) = refl
byte_at (w ∷ ws) (suc (suc zero)) = refl
byte_at (w ∷ ws) (suc (suc (suc i))) =
    let p : suc (suc (suc i)) / 3 ≡ suc (i / 3) = omega arith in
    let q : suc (suc (suc i)) % 3 ≡ i % 3 = omega arith in
    ap₂ (λ x y. part (get_or (w ∷ ws) x 0) y) p q ∙ byte_at ws i

pub first_byte : (ws : List ℕ) (i w : ℕ) → w ≡ get_or ws (i / 3) 0 → i % 3 ≡ 0 → w % 256 ≡ get_or (unpacked ws) i 0
unfolding part
first_byte ws i w e h = ap₂ part e (sym h) ∙ byte_at ws i

pub second_byte : (ws : List ℕ) (i w : ℕ) → w ≡ get_or ws (i / 3) 0 → i % 3 ≡ 1 → w / 256 % 256 ≡ get_or (unpacked ws) i 0
unfolding part
second_byte ws i w e h = ap₂ part e (sym h) ∙ byte_at ws i

pub third_byte : (ws : List ℕ) (i w : ℕ) → w ≡ get_or ws (i / 3) 0 → (i % 3 ≡ 0 → ⊥) → (i % 3 ≡ 1 → ⊥)
    → w / 65536 % 256 ≡ get_or (unpacked ws) i 0
unfolding part
third_byte ws i w e h g =
    let q : 2 ≡ i % 3 = omega arith in
    ap₂ part e q ∙ byte_at ws i

-- names

module _ (W A : List ℕ) (l : Layout) (r : Reads W A l) (n : ℕ) where
  name_read : n < l.names → name_at W (name_head A n) ≡ name_data (snap_of W A l) n
  unfolding name_data
  name_read h = sym (get_d_rows (λ k. name_at W (name_head A k)) (record { bytes = 0; text = [] }) l.names n h)

  within : n < l.names → name_head A n + 1 + words_of (pay_of (get_or W (name_head A n) 0)) ≤ length W
  within h = r.tables.heads n h

  -- the text that is handed back holds as many bytes
  pub text_long : n < l.names → (T : List ℕ) (b : ℕ) → T ≡ text_at W (name_head A n) → b ≡ name_len (snap_of W A l) n → b ≤ 3 * length T
  text_long h T b e q =
      let w = within h in
      let k : b ≡ pay_of (get_or W (name_head A n) 0) = q ∙ sym (ap (λ x. x.bytes) (name_read h)) in
      let m : length (text_at W (name_head A n)) ≡ words_of (pay_of (get_or W (name_head A n) 0)) = simp (length-take, length-drop) (omega arith) in
      let z : length T ≡ length (text_at W (name_head A n)) = ap length e in
      omega arith

  pub name_text_lem : n < l.names → (T : List ℕ) (b : ℕ) → T ≡ text_at W (name_head A n) → b ≡ name_len (snap_of W A l) n
      → take b (unpacked T) ≡ text_of (snap_of W A l) n
  unfolding text_of
  name_text_lem h T b e q =
      ap₂ (λ x y. take x (unpacked y)) q
      (e ∙ sym (rows_part W (name_head A n + 1) (words_of (pay_of (get_or W (name_head A n) 0))) (within h)) ∙ ap (λ x. x.text) (name_read h))

  nothing_there : l.names ≤ n → name_data (snap_of W A l) n ≡ record { bytes = 0; text = [] }
  unfolding name_data
  nothing_there h =
      let z : length (snap_of W A l).names ≤ n = rw (length_rows (λ k. name_at W (name_head A k)) l.names) h in
      get_or-eq_default (snap_of W A l).names (record { bytes = 0; text = [] }) z

  pub no_text : l.names ≤ n → [] ≡ text_of (snap_of W A l) n
  unfolding text_of unpacked
  no_text h = sym (ap (λ (x : Name). take x.bytes (unpacked x.text)) (nothing_there h))

  -- the name as an edition writes it
  module _ (e : ℕ) where
    pub raw_read : n < l.names → {b : Bool} {h : ℕ} → b ≡ is_raw e (name_at W h) → h ≡ name_head A n → b ≡ is_raw e (name_data (snap_of W A l) n)
    raw_read h p q = p ∙ ap (λ k. is_raw e (name_at W k)) q ∙ ap (is_raw e) (name_read h)

    pub raw_few : is_raw e (name_data (snap_of W A l) n) ≡ true → {b : ℕ} → b ≡ name_len (snap_of W A l) n → b ≤ 8
    raw_few p q = let s = (raw_short e (name_data (snap_of W A l) n) p).few in omega arith

    pub written_raw : is_raw e (name_data (snap_of W A l) n) ≡ true → bytes_of "r#" ++ text_of (snap_of W A l) n ≡ written_of (snap_of W A l) e n
    unfolding written_of
    written_raw p = rw (written_of, p)

    pub written_plain : is_raw e (name_data (snap_of W A l) n) ≡ false → text_of (snap_of W A l) n ≡ written_of (snap_of W A l) e n
    unfolding written_of
    written_plain p = rw (written_of, p)

    pub no_name_lem : l.names ≤ n → [] ≡ written_of (snap_of W A l) e n
    no_name_lem h =
        by_test (is_raw e (name_data (snap_of W A l) n))
        (λ t. absurd (let s = (raw_short e (name_data (snap_of W A l) n) t).some in let z = ap (λ (x : Name). x.bytes)
        (nothing_there h) in omega arith))
        (λ t. no_text h ∙ written_plain t)

-- the edition of a module's crate
module _ (s : Snapshot) (m : ℕ) where
  pub edition_none : length s.modules ≤ m → 0 ≡ edition_in s m
  unfolding edition_in
  edition_none h = rw (edition_in, le-ltb m (length s.modules) h)

  pub edition_there : m < length s.modules → {c e : ℕ} → c ≡ crate_of s m → e ≡ (crate_data s c).edition → e ≡ edition_in s m
  unfolding edition_in
  edition_there h p q = q ∙ ap (λ x. (crate_data s x).edition) p ∙ sym (rw (edition_in, lt-ltb m (length s.modules) h))

-- numbers

one_digit : (n : ℕ) → P.decimal_to 1 n ≡ (48 + n % 10) ∷ []
unfolding P.decimal_to
one_digit n =
    by_test (ltb n 10)
    (λ t. let h = ltb-true n 10 t in let e : n ≡ n % 10 = omega arith in sym (decimal_last 1 n (λ z. omega arith) h) ∙ ap (λ x. (48 + x) ∷ []) e)
    (λ t. sym (P-more 1 n (λ z. omega arith) (ltb-false n 10 t)))

digits_same : (d n : ℕ) → P.decimal_to (suc d) n ≡ decimal_to d n
unfolding P.decimal_to decimal_to
digits_same zero n = one_digit n
digits_same (suc d) n = ap (λ x. elim (ltb n 10) [ true ↦ (48 + n) ∷ [] | false ↦ x ++ ((48 + n % 10) ∷ []) ]) (digits_same d (n / 10))

-- 10 to the power d + 1
tens : ℕ → ℕ
tens zero = 10
tens (suc d) = 10 * tens d

short : (d n : ℕ) → n < 10 → decimal_to d n ≡ (48 + n) ∷ []
unfolding decimal_to
short zero n h = let z : n % 10 ≡ n = omega arith in rw z
short (suc d) n h = rw (decimal_to, lt-ltb n 10 h)

enough : (d n : ℕ) → n < tens d → decimal_to d n ≡ decimal n
unfolding tens
enough zero n h = short 0 n h ∙ sym (decimal_digit n h)
enough (suc d) n h =
    by_test (ltb n 10)
    (λ t. let k = ltb-true n 10 t in short (suc d) n k ∙ sym (decimal_digit n k))
    (λ t. let k = ltb-false n 10 t in
    long d n k ∙ ap (λ x. x ++ ((48 + n % 10) ∷ [])) (enough d (n / 10) (omega arith)) ∙ sym (decimal_more n k))

pub number_text : (n : ℕ) → n < 18446744073709551616 → P.decimal_to 20 n ≡ decimal n
unfolding tens
number_text n h = digits_same 19 n ∙ enough 19 n (omega arith)

-- joints

filled : List (List ℕ) → Bool
filled [] = false
filled (p ∷ ps) = true

joined_snoc : (ps : List (List ℕ)) (p : List ℕ)
    → joined (bytes_of "::") ps ++ (joint_if (filled ps) ++ p) ≡ joined (bytes_of "::") (ps ++ (p ∷ []))
unfolding joined filled
joined_snoc [] p = refl
joined_snoc (x ∷ []) p = refl
joined_snoc (x ∷ y ∷ ps) p =
    append_assoc x (bytes_of "::" ++ joined (bytes_of "::") (y ∷ ps)) (bytes_of "::" ++ p)
    ∙ ap (λ z. x ++ (bytes_of "::" ++ z)) (joined_snoc (y ∷ ps) p)

filled_append : (a b : List (List ℕ)) → filled (a ++ b) ≡ (filled a || filled b)
unfolding filled
filled_append [] b = refl
filled_append (x ∷ a) b = refl

filled_prefix : (k : ℕ) → filled (prefix_parts k) ≡ (eqb k 1 || (eqb k 2 || (eqb k 3 || eqb k 4)))
unfolding filled prefix_parts
filled_prefix k = by (eqb k 1) (eqb k 2) (eqb k 3) (eqb k 4)
  where
    by : (a b c d : Bool)
        → filled (elim a [
          | true ↦ bytes_of "self" ∷ []
          | false ↦ elim b [
            | true ↦ bytes_of "super" ∷ []
            | false ↦ elim c [ true ↦ bytes_of "crate" ∷ [] | false ↦ elim d [ true ↦ [] ∷ [] | false ↦ [] ] ]
          ]
        ])
        ≡ (a || (b || (c || d)))
    by true b c d = refl
    by false true c d = refl
    by false false true d = refl
    by false false false true = refl
    by false false false false = refl

filled_names : (f : ℕ → List ℕ) (ns : List ℕ) (i : ℕ) → i ≤ length ns → filled (map f (take i ns)) ≡ ltb 0 i
unfolding filled
filled_names f ns zero h = refl
filled_names f [] (suc i) h = absurd (omega arith)
filled_names f (x ∷ ns) (suc i) h = sym (lt-ltb 0 (suc i) (omega arith))

map_snoc : (f : ℕ → List ℕ) (ns : List ℕ) (n : ℕ) → map f (ns ++ (n ∷ [])) ≡ map f ns ++ (f n ∷ [])
map_snoc f [] n = refl
map_snoc f (x ∷ ns) n = ap (λ z. f x ∷ z) (map_snoc f ns n)

-- what stands before the names, and the first i names
path_to : (ℕ → List ℕ) → ℕ → List ℕ → ℕ → List ℕ
path_to f k ns i = joined (bytes_of "::") (prefix_parts k ++ map f (take i ns))

path_whole : (f : ℕ → List ℕ) (k : ℕ) (ns : List ℕ) (i : ℕ) → path_to f k ns i ≡ joined (bytes_of "::") (prefix_parts k ++ map f (take i ns))
unfolding path_to
path_whole f k ns i = refl

path_start : (f : ℕ → List ℕ) (k : ℕ) (ns : List ℕ) → joined (bytes_of "::") (prefix_parts k) ≡ path_to f k ns 0
unfolding path_to
path_start f k ns = ap (joined (bytes_of "::")) (sym (append-nil (prefix_parts k)))

path_next : (f : ℕ → List ℕ) (k : ℕ) (ns : List ℕ) (i n : ℕ) (leading : Bool) → i < length ns → n ≡ get_or ns i 0
    → leading ≡ (eqb k 1 || (eqb k 2 || (eqb k 3 || eqb k 4)))
    → path_to f k ns i ++ (joint_if (leading || ltb 0 i) ++ f n) ≡ path_to f k ns (i + 1)
unfolding path_to
path_next f k ns i n leading h e q =
    let t : take (i + 1) ns ≡ take i ns ++ (n ∷ []) = ap (λ x. take x ns) (add-one i) ∙ take-suc ns i 0 h ∙ ap (λ x. take i ns ++ (x ∷ [])) (sym e) in
    let b : (leading || ltb 0 i) ≡ filled (prefix_parts k ++ map f (take i ns)) =
    ap₂ (λ x y. x || y) (q ∙ sym (filled_prefix k)) (sym (filled_names f ns i (omega arith)))
    ∙ sym (filled_append (prefix_parts k) (map f (take i ns))) in
    ap (λ x. joined (bytes_of "::") (prefix_parts k ++ map f (take i ns)) ++ (joint_if x ++ f n)) b
    ∙ joined_snoc (prefix_parts k ++ map f (take i ns)) (f n)
    ∙ ap (joined (bytes_of "::")) (append_assoc (prefix_parts k) (map f (take i ns)) (f n ∷ [])
    ∙ ap (λ x. prefix_parts k ++ x) (sym (ap (map f) t ∙ map_snoc f (take i ns) n)))

-- the first i names, each after a joint where something stands before it
pub tail_to : (ℕ → List ℕ) → Bool → List ℕ → ℕ → List ℕ
tail_to f leading ns zero = []
tail_to f leading ns (suc i) = tail_to f leading ns i ++ (joint_if (leading || ltb 0 i) ++ f (get_or ns i 0))

pub tail_none : (f : ℕ → List ℕ) (leading : Bool) (ns : List ℕ) → [] ≡ tail_to f leading ns 0
unfolding tail_to
tail_none f leading ns = refl

pub tail_next : (f : ℕ → List ℕ) (leading : Bool) (ns : List ℕ) (i : ℕ) {n : ℕ} → n ≡ get_or ns i 0
    → tail_to f leading ns i ++ (joint_if (leading || ltb 0 i) ++ f n) ≡ tail_to f leading ns (i + 1)
unfolding tail_to
tail_next f leading ns i e =
    ap (λ n. tail_to f leading ns i ++ (joint_if (leading || ltb 0 i) ++ f n)) e ∙ ap (tail_to f leading ns) (sym (add-one i))

tail_path : (f : ℕ → List ℕ) (k : ℕ) (ns : List ℕ) (i : ℕ) → i ≤ length ns
    → joined (bytes_of "::") (prefix_parts k) ++ tail_to f (eqb k 1 || (eqb k 2 || (eqb k 3 || eqb k 4))) ns i ≡ path_to f k ns i
unfolding tail_to
tail_path f k ns zero h = append-nil _ ∙ path_start f k ns
tail_path f k ns (suc i) h =
    sym (append_assoc (joined (bytes_of "::") (prefix_parts k)) _ _)
    ∙ ap (λ x. x ++ (joint_if ((eqb k 1 || (eqb k 2 || (eqb k 3 || eqb k 4))) || ltb 0 i) ++ f (get_or ns i 0))) (tail_path f k ns i (omega arith))
    ∙ path_next f k ns i (get_or ns i 0) _ (omega arith) refl refl
    ∙ ap (path_to f k ns) (add-one i)

pub path_done : (f : ℕ → List ℕ) (k : ℕ) (ns : List ℕ) (i n : ℕ) → i ≤ n → n ≤ i → n ≤ length ns
    → joined (bytes_of "::") (prefix_parts k) ++ tail_to f (eqb k 1 || (eqb k 2 || (eqb k 3 || eqb k 4))) ns i
    ≡ joined (bytes_of "::") (prefix_parts k ++ map f (take n ns))
path_done f k ns i n h g m =
    let e : i ≡ n = omega arith in
    tail_path f k ns i (omega arith) ∙ ap (path_to f k ns) e ∙ path_whole f k ns n

pub path_done_all : (f : ℕ → List ℕ) (k : ℕ) (ns : List ℕ) (i : ℕ) → i ≤ length ns → length ns ≤ i
    → joined (bytes_of "::") (prefix_parts k) ++ tail_to f (eqb k 1 || (eqb k 2 || (eqb k 3 || eqb k 4))) ns i
    ≡ joined (bytes_of "::") (prefix_parts k ++ map f ns)
path_done_all f k ns i h g =
    path_done f k ns i (length ns) h g (omega arith)
    ∙ ap (λ t. joined (bytes_of "::") (prefix_parts k ++ map f t)) (take_all (length ns) ns (omega arith))

pub no_prefix : (k : ℕ) → (k ≡ 1 → ⊥) → (k ≡ 2 → ⊥) → (k ≡ 3 → ⊥) → [] ≡ joined (bytes_of "::") (prefix_parts k)
unfolding prefix_parts joined
no_prefix k a b c = rw (prefix_parts, ne_eqb _ _ a, ne_eqb _ _ b, ne_eqb _ _ c) (by (eqb k 4))
  where
    by : (d : Bool) → ◌≡◌ {A = List ℕ} [] (joined (bytes_of "::") (elim d [ true ↦ [] ∷ [] | false ↦ [] ]))
    by true = refl
    by false = refl

-- the line

two_parts : (o p a b : List ℕ) → joined (bytes_of " ") (o ∷ p ∷ []) ++ (bytes_of " " ++ (a ++ (bytes_of " " ++ b)))
    ≡ joined (bytes_of " ") (o ∷ p ∷ a ∷ b ∷ [])
unfolding joined
two_parts o p a b = append_assoc o (bytes_of " " ++ p) (bytes_of " " ++ (a ++ (bytes_of " " ++ b)))

pub line_whole : (s : Snapshot) (from : ℕ) {e : ℕ} (r : Report) → e ≡ edition_in s from
    → joined (bytes_of " ") (line_parts s e r) ++ (bytes_of " " ++ (decimal r.charges ++ (bytes_of " " ++ decimal r.empty))) ≡ line_in s from r
unfolding line_in line_parts
line_whole s from r q =
    ap (λ x. joined (bytes_of " ") (line_parts s x r) ++ (bytes_of " " ++ (decimal r.charges ++ (bytes_of " " ++ decimal r.empty)))) q
    ∙ by (eqb r.outcome 0) (eqb r.outcome 1) (eqb r.outcome 3) _ _ _ _ _ _ _ _
  where
    by : (a b c : Bool) (o p q t u v w x : List ℕ)
        → joined (bytes_of " ")
        (elim a [ true ↦ o ∷ p ∷ [] | false ↦ elim b [ true ↦ q ∷ t ∷ [] | false ↦ elim c [ true ↦ w ∷ x ∷ [] | false ↦ u ∷ v ∷ [] ] ] ])
        ++ (bytes_of " " ++ (decimal r.charges ++ (bytes_of " " ++ decimal r.empty)))
        ≡ joined (bytes_of " ")
        (elim a [ true ↦ o ∷ p ∷ [] | false ↦ elim b [ true ↦ q ∷ t ∷ [] | false ↦ elim c [ true ↦ w ∷ x ∷ [] | false ↦ u ∷ v ∷ [] ] ] ]
        ++ (decimal r.charges ∷ decimal r.empty ∷ []))
    by true b c o p q t u v w x = two_parts o p _ _
    by false true c o p q t u v w x = two_parts q t _ _
    by false false true o p q t u v w x = two_parts w x _ _
    by false false false o p q t u v w x = two_parts u v _ _

pub found_text : (s : Snapshot) (y : ℕ) (r : Report) → r.outcome ≡ 0 → bytes_of "found " ++ path_text s y r ≡ joined (bytes_of " ") (line_parts s y r)
unfolding line_parts joined
found_text s y r e = rw (line_parts, eq-eqb _ _ e)

pub none_text : (s : Snapshot) (y : ℕ) (r : Report) → r.outcome ≡ 1 → bytes_of "none -" ≡ joined (bytes_of " ") (line_parts s y r)
unfolding line_parts joined
none_text s y r e = let h : (r.outcome ≡ 0 → ⊥) = λ z. omega arith in rw (line_parts, ne_eqb _ _ h, eq-eqb _ _ e)

pub misleads_text : (s : Snapshot) (y : ℕ) (r : Report) → r.outcome ≡ 3 → bytes_of "misleads " ++ path_text s y r
    ≡ joined (bytes_of " ") (line_parts s y r)
unfolding line_parts joined
misleads_text s y r e =
    let h : (r.outcome ≡ 0 → ⊥) = λ z. omega arith in
    let k : (r.outcome ≡ 1 → ⊥) = λ z. omega arith in
    rw (line_parts, ne_eqb _ _ h, ne_eqb _ _ k, eq-eqb _ _ e)

pub refused_text_lem : (s : Snapshot) (y : ℕ) (r : Report) → (r.outcome ≡ 0 → ⊥) → (r.outcome ≡ 1 → ⊥) → (r.outcome ≡ 3 → ⊥)
    → bytes_of "refused " ++ decimal r.number ≡ joined (bytes_of " ") (line_parts s y r)
unfolding line_parts joined
refused_text_lem s y r a b c = rw (line_parts, ne_eqb _ _ a, ne_eqb _ _ b, ne_eqb _ _ c)

pub refusal_line_lem : (s : Snapshot) (from n : ℕ)
    → bytes_of "refused " ++ (decimal n ++ bytes_of " 0 0\n") ≡ line_in s from (refused n) ++ bytes_of "\n"
unfolding line_in line_parts joined refused decimal decimal_to
refusal_line_lem s from n = ap (λ z. bytes_of "refused " ++ z) (sym (append_assoc (decimal n) (bytes_of " 0 0") (bytes_of "\n")))
