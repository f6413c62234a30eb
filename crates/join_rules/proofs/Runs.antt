-- Records that stand in words, one after the other: the check takes them.
use Prim.Native.Nat.{ℕ, zero, suc, ◌+◌, ◌*◌, ◌/◌, ◌%◌, ◌≤◌, ◌<◌}
use mathlib.Core.Path.{◌≡◌, refl, sym, ◌∙◌, ap, ap₂, subst}
use mathlib.Core.List.{List, [], ◌∷◌, ◌++◌, append_assoc}
use mathlib.Core.Bool.{true}
use native.Mathlib.Omega.{arith}
use native.Mathlib.Nat.{add-zero}
use borrow.Author.Tests.{eq-eqb, lt-ltb}
use lib.ListN.{length, get_or, take, drop, length-append, get_or-append}
use lib.Seq.{get_or-append-add, take-suc, take_all, split_at, ext_get_or}
use Rattle.snapshot.specs.Lists.{rows}
use Rattle.snapshot.specs.Words.{kind_of, pay_of, arguments_of, arguments_at}
use Rattle.snapshot.specs.Records.{Snapshot}
use Rattle.snapshot.proofs.Laws.{length_rows, get_d_rows}
use Rattle.check_rules.specs.Steps.{on}
use Rattle.check_rules.specs.Verdict.{follows, arguments_from, record_step, records}
use Rattle.accept.specs.Valid.{Each, more}
use Rattle.edit_rules.specs.Written.{head_of, each_words}
use Rattle.edit_rules.proofs.scope_edits.Stepped.{taken_step}
use Rattle.edit_rules.proofs.scope_edits.Folded.{records_take}
use Rattle.edit_rules.proofs.scope_edits.Written.{each_more}

-- those words stand in X from place p on
pub record At (X : List ℕ) (p : ℕ) (ws : List ℕ) : Type 0 where
  pub same : (i : ℕ) → i < length ws → get_or X (p + i) 0 ≡ get_or ws i 0
  pub within : p + length ws ≤ length X

module _ {X : List ℕ} {p : ℕ} where
  pub at_left : (a b : List ℕ) → At X p (a ++ b) → At X p a
  at_left a b h =
      let l = length-append a b in
      let w = h.within in
      record { same = λ i k. h.same i (omega arith) ∙ get_or-append a b 0 i k; within = omega arith }

  pub at_right : (a b : List ℕ) → At X p (a ++ b) → At X (p + length a) b
  at_right a b h =
      let l = length-append a b in
      let w = h.within in
      record {
        same = λ i k. let q : p + length a + i ≡ p + (length a + i) = omega arith in ap (λ j. get_or X j 0) q
            ∙ h.same (length a + i) (omega arith) ∙ get_or-append-add a b i 0;
        within = omega arith;
      }

  pub at_next : (w : ℕ) (ws : List ℕ) → At X p (w ∷ ws) → At X (p + 1) ws
  at_next w ws h =
      let l = h.within in
      record {
        same = λ i k. let q : p + 1 + i ≡ p + suc i = omega arith in ap (λ j. get_or X j 0) q ∙ h.same (suc i) (omega arith);
        within = omega arith;
      }

pub at_rows : {X : List ℕ} {p : ℕ} (ws : List ℕ) (n : ℕ) → length ws ≡ n → At X p ws → rows (λ i. get_or X (p + i) 0) 0 n ≡ ws
at_rows {X} {p} ws n e h =
    let f : ℕ → ℕ = λ i. get_or X (p + i) 0 in
    let l = length_rows f n in
    ext_get_or 0 (rows f 0 n) ws (l ∙ sym e) (λ i k. get_d_rows f 0 n i (omega arith) ∙ h.same i (omega arith))

-- the check goes on from a place and a state to others, after a record of a kind up to low; the last one is then of a kind up to high
pub record Goes (X : List ℕ) (p low : ℕ) (s : Snapshot) (q high : ℕ) (t : Snapshot) : Type 0 where
  pub on : (n last : ℕ) → last ≤ low → length X ≤ n + p
      → (m : ℕ) × (next : ℕ) × (next ≤ high) × (length X ≤ m + q) × (records n X p last s ≡ records m X q next t)

pub goes_none : (X : List ℕ) (p low : ℕ) (s : Snapshot) → Goes X p low s p low s
goes_none X p low s = record { on = λ n last h e. (n, last, h, e, refl) }

pub goes_then : {X : List ℕ} {p q r a b c d : ℕ} {s t v : Snapshot} → b ≤ c → Goes X p a s q b t → Goes X q c t r d v → Goes X p a s r d v
goes_then l f g =
    record {
      on =
          λ n last h e.
          let x = f.on n last h e in
          let y = g.on x.0 x.1 (let k = x.2 in omega arith) x.3 in
          (y.0, y.1, y.2, y.3, x.4 ∙ y.4);
    }

-- an argument: its word is of kind 0
abbrev pub Small : ℕ → Type 0
Small w = w < 268435456

arguments_stand : {X : List ℕ} {q : ℕ} (ws : List ℕ) → Each Small ws → At X q ws → arguments_from X q (length ws) ≡ true
unfolding arguments_from
arguments_stand [] h a = refl
arguments_stand {X} {q} (w ∷ ws) (more l h) a =
    let i = a.within in
    let e : get_or X q 0 ≡ w = ap (λ j. get_or X j 0) (sym (add-zero q)) ∙ a.same 0 (omega arith) in
    let z : w / 268435456 ≡ 0 = omega arith in
    let k : kind_of (get_or X q 0) ≡ 0 = ap kind_of e ∙ z in
    rw (lt-ltb q (length X) (omega arith), eq-eqb (kind_of (get_or X q 0)) 0 k, arguments_stand {q = q + 1} ws h (at_next w ws a))

-- one record
module _ (k pay : ℕ) {X : List ℕ} {p : ℕ} {ws : List ℕ} (at : At X p (head_of k pay ∷ ws)) (low : pay < 268435456) where
  head_is : get_or X p 0 ≡ k * 268435456 + pay
  head_is = ap (λ j. get_or X j 0) (sym (add-zero p)) ∙ at.same 0 (omega arith)

  pub kind_is : kind_of (get_or X p 0) ≡ k
  kind_is = let e : (k * 268435456 + pay) / 268435456 ≡ k = omega arith in ap kind_of head_is ∙ e

  pub pay_is : pay_of (get_or X p 0) ≡ pay
  pay_is = let e : (k * 268435456 + pay) % 268435456 ≡ pay = omega arith in ap pay_of head_is ∙ e

  record_on : (last : ℕ) (s t : Snapshot) → Each Small ws → ((n : ℕ) → n ≤ last → follows n k ≡ true) → arguments_of k pay ≡ length ws
      → record_step k X p s ≡ on t → (m n : ℕ) → n ≤ last → length X ≤ m + p
      → (j : ℕ) × (next : ℕ) × (next ≤ k) × (length X ≤ j + (p + suc (length ws))) × (records m X p n s ≡ records j X (p + suc (length ws)) next t)
  record_on last s t small order size step zero n h e = let w = at.within in absurd (omega arith)
  record_on last s t small order size step (suc m) n h e =
      let w = at.within in
      let a : arguments_at X p ≡ length ws = ap₂ arguments_of kind_is pay_is ∙ size in
      let q : p + 1 + length ws ≡ p + suc (length ws) = omega arith in
      let g = taken_step X p n s t
      (record {
        order = ap (follows n) kind_is ∙ order n h;
        whole = ap (arguments_from X (p + 1)) a ∙ arguments_stand ws small (at_next (head_of k pay) ws at);
        step = ap (λ j. record_step j X p s) kind_is ∙ step;
      }) in
      (m, k, omega arith, omega arith, records_take X m p n s t (omega arith) g a kind_is ∙ ap (λ j. records m X j k t) q)

  pub record_goes : (last : ℕ) (s t : Snapshot) → Each Small ws → ((n : ℕ) → n ≤ last → follows n k ≡ true) → arguments_of k pay ≡ length ws
      → record_step k X p s ≡ on t → Goes X p last s (p + suc (length ws)) k t
  record_goes last s t small order size step = record { on = record_on last s t small order size step }

-- the records of a list

pub words_append : {A : Type 0} (f : A → List ℕ) (xs ys : List A) → each_words f (xs ++ ys) ≡ each_words f xs ++ each_words f ys
unfolding each_words
words_append f [] ys = refl
words_append f (x ∷ xs) ys = ap (λ l. f x ++ l) (words_append f xs ys) ∙ sym (append_assoc (f x) (each_words f xs) (each_words f ys))

module _ {R : Type 0} {X : List ℕ} (f : R → List ℕ) (d : R) (k base : ℕ) (with : List R → Snapshot) (zs : List R) (at : At X base (each_words f zs))
    (one : (i p : ℕ) → i < length zs → p ≡ base + length (each_words f (take i zs)) → At X p (f (get_or zs i d))
    → Goes X p k (with (take i zs)) (p + length (f (get_or zs i d))) k (with (take i zs ++ (get_or zs i d ∷ []))))
  where
    abbrev here : ℕ → ℕ
    here i = base + length (each_words f (take i zs))

    here_next : (i : ℕ) → i < length zs → here i + length (f (get_or zs i d)) ≡ here (suc i)
    here_next i h =
        let x = get_or zs i d in
        let e = ap (each_words f) (take-suc zs i d h) ∙ each_more f (take i zs) x in
        let l = ap length e ∙ length-append (each_words f (take i zs)) (f x) in
        omega arith

    stands : (i : ℕ) → i < length zs → At X (here i) (f (get_or zs i d))
    unfolding each_words
    stands i h =
        let x = get_or zs i d in
        let e = ap (each_words f) (split_at zs i d h) ∙ words_append f (take i zs) (x ∷ drop (suc i) zs) in
        at_left (f x) (each_words f (drop (suc i) zs)) (at_right (each_words f (take i zs)) (f x ++ each_words f (drop (suc i) zs))
        (subst (At X base) e at))

    from : (n i : ℕ) → i + n ≡ length zs → Goes X (here i) k (with (take i zs)) (base + length (each_words f zs)) k (with zs)
    from zero i e =
        let q : take i zs ≡ zs = take_all i zs (omega arith) in
        subst (λ l. Goes X (base + length (each_words f l)) k (with l) (base + length (each_words f zs)) k (with zs)) (sym q)
        (goes_none X (base + length (each_words f zs)) k (with zs))
    from (suc n) i e =
        let h : i < length zs = omega arith in
        let g = subst (λ l. Goes X (here i) k (with (take i zs)) (here i + length (f (get_or zs i d))) k (with l)) (sym (take-suc zs i d h))
        (one i (here i) h refl (stands i h)) in
        let j = subst (λ q. Goes X (here i) k (with (take i zs)) q k (with (take (suc i) zs))) (here_next i h) g in
        goes_then (omega arith) j (from n (suc i) (omega arith))

    pub each_goes : Goes X base k (with []) (base + length (each_words f zs)) k (with zs)
    unfolding each_words
    each_goes = subst (λ p. Goes X p k (with []) (base + length (each_words f zs)) k (with zs)) (add-zero base) (from (length zs) 0 (omega arith))
