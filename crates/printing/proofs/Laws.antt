-- Laws of words that are read from bytes, and of text that is put into bytes.
use Prim.Native.Nat.{ℕ, zero, suc, ◌+◌, ◌-◌, ◌≤◌, ◌<◌, ◌/◌, ◌%◌, min}
use mathlib.Core.Path.{◌≡◌, refl, sym, ◌∙◌, ap, ap₂, subst}
use mathlib.Core.List.{List, [], ◌∷◌, ◌++◌, append_assoc, append-nil}
use mathlib.Core.Bool.{Bool, true, false}
use native.Mathlib.Omega.{arith}
use native.Mathlib.Numerals.{add-one}
use native.Mathlib.Nat.{add-zero}
use borrow.Author.Tests.{lt-ltb, le-ltb}
use lib.Dec.{ltb}
use lib.ListN.{length, get_or, take, drop, set, length-append, length-take, take-append-drop}
use lib.Seq.{take-suc, take-suc-set, take-length, length-take-le, drop-set-lt, drop-drop}
use Rattle.std.specs.Counts.{IsPrefixLen}
use Rattle.snapshot.specs.Lists.{rows}
use Rattle.snapshot.proofs.Laws.{rows_snoc}
use Rattle.printing.specs.Output.{Put, decimal_to}

pub rows_empty : (f : ℕ → ℕ) → [] ≡ rows f 0 0
unfolding rows
rows_empty f = refl

-- one word more, at the end
pub words_next : (f : ℕ → ℕ) (ws : List ℕ) (k v : ℕ) → k < length ws → take k ws ≡ rows f 0 k → v ≡ f k
    → take (k + 1) (set ws k v) ≡ rows f 0 (k + 1)
words_next f ws k v h e q =
    ap (λ n. take n (set ws k v)) (add-one k) ∙ take-suc-set ws k v h ∙ ap₂ (λ l x. l ++ (x ∷ [])) e q ∙ sym (rows_snoc f k)

-- no piece
pub put_none : (old : List ℕ) (at : ℕ) → Put old at [] old at
put_none old at = record { next = omega arith; same = sym (append-nil _); rest = refl }

-- the same text, told otherwise
pub put_as : {old new a b : List ℕ} {at r : ℕ} → a ≡ b → Put old at a new r → Put old at b new r
put_as {old} {new} {a} {b} {at} {r} e p = subst (λ (x : List ℕ). Put old at x new r) e p

-- what stays from a place on stays from a later one on
later : (a b : List ℕ) (r t : ℕ) → r ≤ t → drop r a ≡ drop r b → drop t a ≡ drop t b
later a b r t h e =
    let q : r + (t - r) ≡ t = omega arith in
    ap (λ k. drop k a) (sym q) ∙ sym (drop-drop (t - r) r a) ∙ ap (drop (t - r)) e ∙ drop-drop (t - r) r b ∙ ap (λ k. drop k b) q

-- a piece after a piece
pub put_two : {old mid new a b : List ℕ} {at r t : ℕ} → Put old at a mid r → Put mid r b new t → Put old at (a ++ b) new t
put_two {old} {mid} {new} {a} {b} {at} {r} {t} p q =
    let l : length (a ++ b) ≡ length a + length b = length-append a b in
    let x = p.next in
    let y = q.next in
    record {
      next = omega arith;
      same = q.same ∙ ap (λ l. l ++ b) p.same ∙ append_assoc (take at old) a b;
      rest = q.rest ∙ later mid old r t (omega arith) p.rest;
    }

-- bytes with a text at their front, whole
pub put_whole : {old new text : List ℕ} {r : ℕ} → Put old 0 text new r → new ≡ text ++ drop r old
put_whole {old} {new} {text} {r} p = sym (take-append-drop r new) ∙ ap₂ (λ x y. x ++ y) p.same p.rest

-- a text of which i bytes stand

pub put_start : (old text : List ℕ) (at : ℕ) → Put old at (take 0 text) old (at + 0)
put_start old text at =
    record { next = refl; same = ap (λ n. take n old) (add-zero at) ∙ sym (append-nil _); rest = refl }

-- one word more, and those past it as they were
pub past_next : (ws old : List ℕ) (k v : ℕ) → drop k ws ≡ drop k old → drop (k + 1) (set ws k v) ≡ drop (k + 1) old
past_next ws old k v e = drop-set-lt (k + 1) ws k v (omega arith) ∙ later ws old k (k + 1) (omega arith) e

-- one byte more
pub put_next : (old out text : List ℕ) (at i v : ℕ) → Put old at (take i text) out (at + i) → at + i < length out → i < length text
    → v ≡ get_or text i 0 → Put old at (take (i + 1) text) (set out (at + i) v) (at + (i + 1))
put_next old out text at i v e h p q =
    let n : at + (i + 1) ≡ suc (at + i) = omega arith in
    let m : length (take (i + 1) text) ≡ i + 1 = length-take-le (i + 1) text (omega arith) in
    let t : take i text ++ (v ∷ []) ≡ take (i + 1) text =
    ap (λ x. take i text ++ (x ∷ [])) q ∙ sym (take-suc text i 0 p) ∙ ap (λ k. take k text) (sym (add-one i)) in
    record {
      next = ap (λ k. at + k) (sym m);
      same = ap (λ k. take k (set out (at + i) v)) n
          ∙ take-suc-set out (at + i) v h
          ∙ ap (λ l. l ++ (v ∷ [])) e.same
          ∙ append_assoc (take at old) (take i text) (v ∷ [])
          ∙ ap (λ l. take at old ++ l) t;
      rest = drop-set-lt (at + (i + 1)) out (at + i) v (omega arith) ∙ later out old (at + i) (at + (i + 1)) (omega arith) e.rest;
    }

pub put_end : (old new text : List ℕ) (at i : ℕ) → Put old at (take i text) new (at + i) → i ≡ length text
    → Put old at text new (at + length text)
put_end old new text at i e q =
    subst (λ r. Put old at text new (at + r)) q (put_as (ap (λ n. take n text) q ∙ take-length text) e)

-- digits

pub length_decimal : (most n : ℕ) → length (decimal_to most n) ≤ most
unfolding decimal_to
length_decimal zero n = omega arith
length_decimal (suc most) n = by_test (ltb n 10) (length_decimal most (n / 10))
  where
    by_test : (b : Bool)
        → length (decimal_to most (n / 10)) ≤ most
        → length {A = ℕ} (elim b [ true ↦ (48 + n) ∷ [] | false ↦ decimal_to most (n / 10) ++ ((48 + n % 10) ∷ []) ]) ≤ suc most
    by_test true h = omega arith
    by_test false h =
        let e = length-append (decimal_to most (n / 10)) ((48 + n % 10) ∷ []) in
        omega arith

pub decimal_none : (most n : ℕ) → most ≡ 0 → [] ≡ decimal_to most n
unfolding decimal_to
decimal_none most n e = rw e

pub decimal_last : (most n : ℕ) → (most ≡ 0 → ⊥) → n < 10 → (48 + n) ∷ [] ≡ decimal_to most n
unfolding decimal_to
decimal_last zero n h p = absurd (h refl)
decimal_last (suc most) n h p = rw (decimal_to, lt-ltb _ _ p)

pub decimal_more : (most n : ℕ) → (most ≡ 0 → ⊥) → 10 ≤ n
    → decimal_to (most - 1) (n / 10) ++ ((48 + n % 10) ∷ []) ≡ decimal_to most n
unfolding decimal_to
decimal_more zero n h p = absurd (h refl)
decimal_more (suc most) n h p = let e : suc most - 1 ≡ most = omega arith in rw (e, decimal_to, le-ltb _ _ p)

-- a text that is put at the front is as long as the place after it says
pub front_counts : {old new t : List ℕ} {r : ℕ} → Put old 0 t new r → IsPrefixLen r new
front_counts {old} {new} {t} {r} p =
    let e : length (take r new) ≡ length t = ap length p.same in
    let q : length (take r new) ≡ min r (length new) = length-take r new in
    let n = p.next in
    let h : r ≤ length new = omega arith in
    (h, sym (length-take-le r new h))
