-- Laws of reports, and of words that they are written to.
use Prim.Native.Nat.{ℕ, zero, suc, ◌+◌, ◌≤◌, ◌<◌}
use mathlib.Core.Path.{◌≡◌, refl, sym, ◌∙◌, ap, ap₂}
use mathlib.Core.List.{List, [], ◌∷◌, ◌++◌, map, append_assoc}
use mathlib.Core.Bool.{Bool, true, false}
use native.Mathlib.Omega.{arith}
use native.Mathlib.Numerals.{add-one}
use native.Mathlib.Nat.{add-zero}
use borrow.Author.Tests.{lt-ltb, le-ltb, lt-leb, le-leb}
use lib.ListN.{length, length-append, take-append-drop, get_or, set, take, drop}
use lib.Seq.{take_at, drop_at, take-length, drop-drop}
use Rattle.std.specs.Int.{from_bool}
use Rattle.snapshot.specs.Records.{Snapshot}
use Rattle.find_path_choice.specs.Choices.{Choice}
use Rattle.find_path_choice.specs.Given.{given}
use Rattle.find_path_spec.specs.declared.Found.{Found}
use Rattle.find_path_spec.specs.declared.Query.{Query}
use Rattle.find_path_spec.specs.declared.Report.{Report}
use Rattle.find_path_spec.specs.declared.Tank.{Tank}
use Rattle.find_path_spec.specs.Charged.{Found as Answer, Out, found_of, out_of, given_found}
use Rattle.find_path_spec.specs.Report.{flag, misleads, outcome_by, reported}
use Rattle.reports.specs.Written.{low, report_words, written_to, Written, report_size}

-- a flag as a number
pub flag_is : (b : Bool) → from_bool b ≡ flag b
unfolding flag
flag_is true = refl
flag_is false = refl

-- the report of a choice with the number a of its outcome
pub reported_same : (s : Snapshot) (q : Query) (f : Found) (c : Choice) (m b : Bool) (a e : ℕ) → given f.choice ≡ c
    → m ≡ misleads s q (given f.choice)
    → b ≡ c.found → a ≡ outcome_by m b → e ≡ flag f.meter.empty
    → ◌≡◌ {A = Report} (record {
      outcome = a;
      number = 0;
      kind = c.kind;
      names = c.names;
      count = c.count;
      charges = f.meter.spent;
      empty = e;
      left = f.meter.left;
      sought = f.meter.sought;
      route = c.route;
      steps = c.steps;
    }) (reported s q (out_of f))
unfolding reported
reported_same s q f c m b a e g h t p k =
    (λ i. record {
      outcome = (p ∙ ap₂ outcome_by (h ∙ ap (λ (z : Choice). misleads s q z) g) t) i;
      number = 0;
      kind = c.kind;
      names = c.names;
      count = c.count;
      charges = f.meter.spent;
      empty = k i;
      left = f.meter.left;
      sought = f.meter.sought;
      route = c.route;
      steps = c.steps;
    })
    ∙ ap (λ (z : Choice). reported s q (record { choice = z; meter = f.meter })) (sym g)

pub reported_out : (s : Snapshot) (q : Query) (f : Found) (o : Out Tank) → given_found f ≡ found_of o → reported s q (out_of f) ≡ reported s q o
reported_out s q f o e = ap (λ (x : Answer). reported s q (record { choice = x.choice; meter = x.meter })) e

-- numbers written from a place on

put_front : (old ns : List ℕ) (i : ℕ) → i < length old → i < length ns
    → set (map low (take i ns) ++ drop i old) i (low (get_or ns i 0)) ≡ map low (take (suc i) ns) ++ drop (suc i) old
put_front [] ns i h k = absurd (omega arith)
put_front (x ∷ old) [] i h k = absurd (omega arith)
put_front (x ∷ old) (n ∷ ns) zero h k = refl
put_front (x ∷ old) (n ∷ ns) (suc i) h k = ap (λ l. low n ∷ l) (put_front old ns i (omega arith) (omega arith))

put_from : (old ns : List ℕ) (at i k : ℕ) → k ≡ at + i → k < length old → i < length ns
    → set (take at old ++ (map low (take i ns) ++ drop k old)) k (low (get_or ns i 0))
    ≡ take at old ++ (map low (take (suc i) ns) ++ drop (suc k) old)
put_from old ns zero i k e h p =
    let q : k ≡ i = omega arith in
    let g : i < length old = omega arith in
    ap (λ z. set (map low (take i ns) ++ drop z old) z (low (get_or ns i 0))) q ∙ put_front old ns i g p
    ∙ ap (λ z. map low (take (suc i) ns) ++ drop (suc z) old) (sym q)
put_from [] ns (suc at) i k e h p = absurd (omega arith)
put_from (x ∷ old) ns (suc at) i zero e h p = absurd (omega arith)
put_from (x ∷ old) ns (suc at) i (suc k) e h p = ap (λ l. x ∷ l) (put_from old ns at i k (omega arith) (omega arith) p)

pub words_start : (old ns : List ℕ) (at : ℕ) → old ≡ take at old ++ (map low (take 0 ns) ++ drop (at + 0) old)
words_start old ns at = sym (take-append-drop at old) ∙ ap (λ n. take at old ++ drop n old) (sym (add-zero at))

pub words_next : (old out ns : List ℕ) (at i v : ℕ) → out ≡ take at old ++ (map low (take i ns) ++ drop (at + i) old)
    → at + i < length old → i < length ns → v ≡ low (get_or ns i 0)
    → set out (at + i) v ≡ take at old ++ (map low (take (i + 1) ns) ++ drop (at + (i + 1)) old)
words_next old out ns at i v e h p q =
    let z : suc (at + i) ≡ at + (i + 1) = omega arith in
    ap₂ (λ x y. set x (at + i) y) e q ∙ put_from old ns at i (at + i) refl h p
    ∙ ap₂ (λ x y. take at old ++ (map low (take x ns) ++ drop y old)) (sym (add-one i)) z

pub words_done : (old out ns : List ℕ) (at i : ℕ) → out ≡ take at old ++ (map low (take i ns) ++ drop (at + i) old)
    → i ≤ length ns → length ns ≤ i → out ≡ take at old ++ (map low ns ++ drop (at + length ns) old)
words_done old out ns at i e h k =
    let q : i ≡ length ns = omega arith in
    e ∙ ap (λ z. take at old ++ (map low (take z ns) ++ drop (at + z) old)) q
    ∙ ap (λ z. take at old ++ (map low z ++ drop (at + length ns) old)) (take-length ns)

-- a piece after a piece
paste : (X P T L : List ℕ) (a b n : ℕ) → length P ≡ a → n ≡ a + b → X ≡ P ++ T → take a X ++ (L ++ drop n X) ≡ (P ++ L) ++ drop b T
paste X P T L a b n h q e =
    let t : take a X ≡ P = ap (take a) e ∙ take_at P T a h in
    let d : drop n X ≡ drop b T = ap (λ k. drop k X) q ∙ sym (drop-drop b a X) ∙ ap (λ x. drop b (drop a x)) e ∙ ap (drop b) (drop_at P T a h) in
    ap₂ (λ x y. x ++ (L ++ y)) t d ∙ sym (append_assoc P L (drop b T))

length_map : (ns : List ℕ) → length (map low ns) ≡ length ns
length_map [] = refl
length_map (n ∷ ns) = ap suc (length_map ns)

module _ (r : Report) (old : List ℕ) where
  -- the four parts of a report, one after the other
  parts_written : (x y z w : List ℕ) → length r.names ≡ 16
      → x ≡ take 0 old ++ (map low (r.outcome ∷ r.number ∷ r.kind ∷ []) ++ drop 3 old)
      → y ≡ take 3 x ++ (map low r.names ++ drop 19 x)
      → z ≡ take 19 y ++ (map low (r.count ∷ r.charges ∷ r.empty ∷ r.left ∷ r.sought ∷ r.steps ∷ []) ++ drop 25 y)
      → w ≡ take 25 z ++ (map low r.route ++ drop report_size z)
      → w ≡ report_words r ++ drop report_size old
  unfolding report_words
  parts_written x y z w l ex ey ez ew =
      let H : List ℕ = map low (r.outcome ∷ r.number ∷ r.kind ∷ []) in
      let N : List ℕ = map low r.names in
      let R : List ℕ = map low (r.count ∷ r.charges ∷ r.empty ∷ r.left ∷ r.sought ∷ r.steps ∷ []) in
      let T : List ℕ = map low r.route in
      let m : length N ≡ 16 = length_map r.names ∙ l in
      let n : length (H ++ N) ≡ 19 = length-append H N ∙ ap (λ k. 3 + k) m in
      let o : length ((H ++ N) ++ R) ≡ 25 = length-append (H ++ N) R ∙ ap (λ k. k + 6) n in
      let a : y ≡ (H ++ N) ++ drop 16 (drop 3 old) = ey ∙ paste x H (drop 3 old) N 3 16 19 refl refl ex in
      let b : z ≡ ((H ++ N) ++ R) ++ drop 6 (drop 16 (drop 3 old)) = ez ∙ paste y (H ++ N) (drop 16 (drop 3 old)) R 19 6 25 n refl a in
      let c : w ≡ (((H ++ N) ++ R) ++ T) ++ drop 17 (drop 6 (drop 16 (drop 3 old))) =
      ew ∙ paste z ((H ++ N) ++ R) (drop 6 (drop 16 (drop 3 old))) T 25 17 report_size o refl b in
      let d : drop 17 (drop 6 (drop 16 (drop 3 old))) ≡ drop report_size old =
      drop-drop 17 6 (drop 16 (drop 3 old)) ∙ drop-drop 23 16 (drop 3 old) ∙ drop-drop 39 3 old in
      c ∙ ap₂ (λ u v. u ++ v) (append_assoc (H ++ N) R T ∙ append_assoc H N (R ++ T)) d

  pub written : (x y z w : List ℕ) → report_size ≤ length old → length r.names ≡ 16 → length r.route ≡ 17
      → x ≡ take 0 old ++ (map low (r.outcome ∷ r.number ∷ r.kind ∷ []) ++ drop 3 old)
      → y ≡ take 3 x ++ (map low r.names ++ drop (3 + length r.names) x)
      → z ≡ take 19 y ++ (map low (r.count ∷ r.charges ∷ r.empty ∷ r.left ∷ r.sought ∷ r.steps ∷ []) ++ drop 25 y)
      → w ≡ take 25 z ++ (map low r.route ++ drop (25 + length r.route) z)
      → Written r old w true
  unfolding written_to
  written x y z w h l k ex ey ez ew =
      let e : 3 + length r.names ≡ 19 = omega arith in
      let f : 25 + length r.route ≡ report_size = omega arith in
      record {
        words =
            parts_written x y z w l ex (ey ∙ ap (λ k. take 3 x ++ (map low r.names ++ drop k x)) e) ez
            (ew ∙ ap (λ k. take 25 z ++ (map low r.route ++ drop k z)) f)
            ∙ sym (rw (written_to, le-ltb _ _ h));
        done = sym (le-leb _ _ h);
      }

  pub not_written : length old < report_size → Written r old old false
  unfolding written_to
  not_written h = record { words = sym (rw (written_to, lt-ltb _ _ h)); done = sym (lt-leb _ _ h) }
