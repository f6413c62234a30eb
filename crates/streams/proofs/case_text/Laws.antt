-- Laws of the words of a text.
use Rattle.std.proofs.Common.{◌≡◌, ℕ, zero, suc, ◌+◌, ◌-◌, ◌*◌, ◌%◌, ◌<◌, ◌≤◌, List, ◌∷◌, length, get_or, drop, set, sym, refl, ap, ◌∙◌, ap₂, add-one}
use Rattle.std.proofs.Common.{arith, drop_of_length-le, drop-cons, le-ltb, lt-ltb, ne_eqb, le-leb}
use Rattle.std.proofs.Common.{length-drop, take}
use Rattle.std.proofs.lemmas.List.{take_all}
use Rattle.std.proofs.lemmas.List.{get_or-drop}
use borrow.Author.Tests.{lt-leb}
use Rattle.std.specs.Prelude.{Option, None, Some, unwrap_or}
use Rattle.streams.specs.case_text.Words.{digit_of, next_word, under_way, Read, read_to, put_word, stored, raised_by, copied, repeated, read_from}

-- a word that is under way

module _ (w d : ℕ) where
  pub next_digit : d < 16 → 4294967296 + w % 268435456 * 16 + d ≡ next_word w d
  unfolding next_word
  next_digit h = sym (rw (next_word, lt-ltb d 16 h))

  pub next_none : 16 ≤ d → 0 ≡ next_word w d
  unfolding next_word
  next_none h = sym (rw (next_word, le-ltb d 16 h))

-- the digits of a word that is under way
under_way_low : (v : ℕ) → (4294967296 + v) % 268435456 ≡ v % 268435456
under_way_low v = omega arith

pub with_digit : (o : Option ℕ) (v d : ℕ) → v ≡ unwrap_or o 0 → d < 16 → 4294967296 + (v % 268435456 * 16 + d) ≡ next_word (under_way o) d
with_digit None v d e h =
    let q : 4294967296 + (v % 268435456 * 16 + d) ≡ 4294967296 + 0 % 268435456 * 16 + d = rw e (omega arith) in q ∙ next_digit 0 d h
with_digit (Some w) v d e h =
    let q : 4294967296 + (v % 268435456 * 16 + d) ≡ 4294967296 + (4294967296 + w) % 268435456 * 16 + d =
    rw (e, under_way_low w) (omega arith) in
    q ∙ next_digit (4294967296 + w) d h

-- a word that is whole

module _ (W : List ℕ) (n : ℕ) where
  abbrev at : Read
  at = read_to W n

  pub put_room : n < length W → (w : ℕ) → read_to (set W n w) (n + 1) ≡ put_word at w
  unfolding put_word
  put_room h w = sym (rw (put_word, lt-ltb n (length W) h))

  pub put_full : length W ≤ n → (w : ℕ) → at ≡ put_word at w
  unfolding put_word
  put_full h w = sym (rw (put_word, le-ltb n (length W) h))

  pub stored_digit : (w d : ℕ) → d < 16 → at ≡ stored at w d
  unfolding stored
  stored_digit w d h = sym (rw (stored, lt-ltb d 16 h))

  pub stored_none : (w d : ℕ) → 16 ≤ d → w < 4294967296 → at ≡ stored at w d
  unfolding stored
  stored_none w d h g = sym (rw (stored, le-ltb d 16 h, lt-ltb w 4294967296 g))

  pub stored_word : (w d : ℕ) → 16 ≤ d → 4294967296 ≤ w → put_word at (w % 4294967296) ≡ stored at w d
  unfolding stored
  stored_word w d h g = sym (rw (stored, le-ltb d 16 h, le-ltb w 4294967296 g))

  pub stored_nothing : at ≡ stored at 0 16
  stored_nothing = stored_none 0 16 (omega arith) (omega arith)

  pub stored_room : (w : ℕ) → w < 4294967296 → n < length W → read_to (set W n w) (n + 1) ≡ stored at (4294967296 + w) 16
  stored_room w b h =
      let e : (4294967296 + w) % 4294967296 ≡ w = omega arith in
      put_room h w ∙ ap (put_word at) (sym e) ∙ stored_word (4294967296 + w) 16 (omega arith) (omega arith)

  pub stored_full : (w : ℕ) → length W ≤ n → at ≡ stored at (4294967296 + w) 16
  stored_full w h = put_full h _ ∙ stored_word (4294967296 + w) 16 (omega arith) (omega arith)

  -- copies

  module _ (k heads arguments : ℕ) where
    pub copied_early : (left : ℕ) → n < k → at ≡ copied left k heads arguments at
    unfolding copied
    copied_early zero h = refl
    copied_early (suc left) h = sym (rw (copied, lt-ltb n k h))

    pub copied_full : (left : ℕ) → k ≤ n → length W ≤ n → at ≡ copied left k heads arguments at
    unfolding copied
    copied_full zero h g = refl
    copied_full (suc left) h g = sym (rw (copied, le-ltb n k h, le-leb (length W) n g))

    pub copied_next : (left : ℕ) → 0 < left → k ≤ n → n < length W → (w : ℕ) → w ≡ raised_by (get_or W (n - k) 0) heads arguments
        → copied (left - 1) k heads arguments (read_to (set W n w) (n + 1)) ≡ copied left k heads arguments at
    unfolding copied
    copied_next zero p h g w e = absurd (omega arith)
    copied_next (suc left) p h g w e =
        let q : suc left - 1 ≡ left = omega arith in
        ap₂ (λ m r. copied m k heads arguments r) q (put_room g w ∙ ap (put_word at) e) ∙ sym (rw (copied, le-ltb n k h, lt-leb (length W) n g))

    pub copied_none : (left : ℕ) → left ≤ 0 → copied left k heads arguments at ≡ at
    unfolding copied
    copied_none zero h = refl
    copied_none (suc left) h = absurd (omega arith)

  -- a star

  pub repeated_other : (d : ℕ) → d < 17 → at ≡ repeated at d
  unfolding repeated
  repeated_other d h = sym (rw (repeated, lt-ltb d 17 h))

  pub repeated_few : (d : ℕ) → 17 ≤ d → n < 4 → at ≡ repeated at d
  unfolding repeated
  repeated_few d h g = sym (rw (repeated, le-ltb d 17 h, lt-ltb n 4 g))

  pub repeated_past : (d : ℕ) → 17 ≤ d → 4 ≤ n → length W < n → at ≡ repeated at d
  unfolding repeated
  repeated_past d h g l = sym (rw (repeated, le-ltb d 17 h, le-ltb n 4 g, lt-ltb (length W) n l))

  pub repeated_star : (d : ℕ) → 17 ≤ d → 4 ≤ n → n ≤ length W → (r : Read)
      → r ≡ copied (get_or W (n - 3) 0) (get_or W (n - 4) 0) (get_or W (n - 2) 0) (get_or W (n - 1) 0) (read_to W (n - 4)) → r ≡ repeated at d
  unfolding repeated
  repeated_star d h g l r e = e ∙ sym (rw (repeated, le-ltb d 17 h, le-ltb n 4 g, le-ltb (length W) n l))

-- a text

read_byte : (b : ℕ) (rest : List ℕ) (w d : ℕ) (r s t : Read) (v : ℕ) → d ≡ digit_of b → s ≡ stored r w d → t ≡ repeated s d → v ≡ next_word w d
    → read_from rest v t ≡ read_from (b ∷ rest) w r
unfolding read_from
read_byte b rest w d r s t v e f g q = rw (q, g, f, e)

pub read_next : (text : List ℕ) (i w d : ℕ) (r s t : Read) (v : ℕ) → i < length text → d ≡ digit_of (get_or text i 0) → s ≡ stored r w d
    → t ≡ repeated s d → v ≡ next_word w d → read_from (drop (i + 1) text) v t ≡ read_from (drop i text) w r
read_next text i w d r s t v h e f g q =
    let c : drop i text ≡ get_or text i 0 ∷ drop (i + 1) text = rw (add-one i) (drop-cons text i 0 h) in
    read_byte (get_or text i 0) (drop (i + 1) text) w d r s t v e f g q ∙ ap (λ x. read_from x w r) (sym c)

-- what a byte of each kind makes of it
module _ (text W : List ℕ) (i n : ℕ) (h : i < length text) where
  abbrev next : Read → ℕ → Read
  next r w = read_from (drop (i + 1) text) w r

  pub read_digit : (w v d : ℕ) → d ≡ digit_of (get_or text i 0) → d < 16 → v ≡ next_word w d
      → next (read_to W n) v ≡ read_from (drop i text) w (read_to W n)
  read_digit w v d e l g =
      read_next text i w d (read_to W n) (read_to W n) (read_to W n) v h e (stored_digit W n w d l) (repeated_other W n d (omega (arith, l))) g

  pub read_gap : (w : ℕ) (W' : List ℕ) (n' : ℕ) → 16 ≡ digit_of (get_or text i 0) → read_to W' n' ≡ stored (read_to W n) w 16
      → next (read_to W' n') 0 ≡ read_from (drop i text) w (read_to W n)
  read_gap w W' n' e s = read_next text i w 16 _ _ _ 0 h e s (repeated_other W' n' 16 (omega arith)) (next_none w 16 (omega arith))

  pub read_star : (w : ℕ) (s t : Read) → 17 ≡ digit_of (get_or text i 0) → s ≡ stored (read_to W n) w 16 → t ≡ repeated s 17
      → next t 0 ≡ read_from (drop i text) w (read_to W n)
  unfolding stored
  read_star w s t e p q = read_next text i w 17 _ s t 0 h e p q (next_none w 17 (omega arith))

pub read_done : (text : List ℕ) (i w : ℕ) (r : Read) → length text ≤ i → read_from (drop i text) w r ≡ r
unfolding read_from
read_done text i w r h = rw (drop_of_length-le text h)

-- the first place of a byte from a place on

module _ (xs : List ℕ) (from stop : ℕ) (h : from ≤ length xs) where
  -- `&xs[from..]`
  abbrev rest : List ℕ
  rest = take (length xs - from) (drop from xs)

  rest_drop : rest ≡ drop from xs
  rest_drop = let d = length-drop from xs in take_all _ (drop from xs) (omega (arith, d))

  rest_length : length rest ≡ length xs - from
  rest_length = ap length rest_drop ∙ length-drop from xs

  rest_at : (k : ℕ) → get_or rest k 0 ≡ get_or xs (from + k) 0
  rest_at k = ap (λ l. get_or l k 0) rest_drop ∙ get_or-drop from xs k 0

  -- the byte at a place, which is the one that far into the rest
  stop_at : (i : ℕ) → from ≤ i → get_or rest (i - from) 0 ≡ get_or xs i 0
  stop_at i g = let e : from + (i - from) ≡ i = omega arith in rest_at (i - from) ∙ ap (λ j. get_or xs j 0) e

  pub stop_found : (n : ℕ) → n < length rest → get_or rest n 0 ≡ stop → ((k : ℕ) → k < n → get_or rest k 0 ≡ stop → ⊥)
      → (from ≤ from + n) × (from + n ≤ length xs) × ((i : ℕ) → from ≤ i → i < from + n → get_or xs i 0 ≡ stop → ⊥)
      × (from + n < length xs → get_or xs (from + n) 0 ≡ stop)
  stop_found n l e p =
      let d = rest_length in (
        omega arith,
        omega (arith, d, l),
        λ i g b q. p (i - from) (omega arith) (stop_at i g ∙ q),
        λ b. sym (rest_at n) ∙ e,
      )

  pub stop_none : ((k : ℕ) → k < length rest → get_or rest k 0 ≡ stop → ⊥)
      → (from ≤ length xs) × (length xs ≤ length xs) × ((i : ℕ) → from ≤ i → i < length xs → get_or xs i 0 ≡ stop → ⊥)
      × (length xs < length xs → get_or xs (length xs) 0 ≡ stop)
  stop_none p =
      let d = rest_length in (
        h,
        omega arith,
        λ i g b q. p (i - from) (omega (arith, d, b, g)) (stop_at i g ∙ q),
        λ b. absurd (omega arith),
      )
