-- Words written one after the other or only counted, and what a word is moved to.
use Prim.Native.Nat.{ℕ, zero, suc, ◌+◌, ◌-◌, ◌*◌, ◌^◌, ◌≤◌, ◌<◌}
use mathlib.Core.Path.{◌≡◌, refl, sym, ◌∙◌, ap, ap₂, subst}
use mathlib.Core.List.{List, [], ◌∷◌, ◌++◌, append_assoc, append-nil}
use mathlib.Core.Bool.{Bool, true, false, not}
use native.Mathlib.Omega.{arith}
use borrow.Author.Tests.{eq-eqb, ne_eqb, lt-ltb, le-ltb, ltb-true, ltb-false, leb-true, leb-false, not-true, not-false}
use lib.Dec.{leb, ltb}
use lib.ListN.{length, get_or, set, length-append, get_or-append}
use lib.Seq.{sets, length-sets, get_or-append-add}
use Rattle.snapshot.specs.Limits.{word_limit}
use Rattle.snapshot.specs.Lists.{rows}
use Rattle.snapshot.specs.Words.{kind_of, pay_of, arguments_at}
use Rattle.snapshot.specs.Layouts.{dependency_base, map_base, child_base, prelude_base, definition_base, scope_base, import_base, extern_base}
use Rattle.snapshot.specs.Layouts.{member_base}
use Rattle.snapshot.specs.Layouts.{word_count}
use Rattle.snapshot.specs.declared.layout.Layout.{Layout}
use Rattle.snapshot.proofs.Laws.{past, rows_next, rows_none, rows_snoc, length_rows, get_d_rows}
use Rattle.accept.proofs.Accepted.{by_test}
use Rattle.accept.proofs.Turns.{arguments_few}
use Rattle.edit_rules.specs.Written.{head_of, joined}
use Rattle.join_rules.specs.Joined.{Numbers, or_none, first_to, second_to, visible_to}
use Rattle.join.specs.numbers.Numbered.{name_table, definition_table}
use Rattle.join.specs.records.Moves.{numbers_of, role_table, role_of, definition_of, field_to, moved_word, moved_at, kept_at, kept_words, walked}
use Rattle.join.specs.records.Moves.{moved_run, run_of, base_of, kind_to, kinds, words_to}
use Rattle.join.specs.records.Writes.{Space, Wrote, Whole}
use Rattle.answer.proofs.counts.Targets.{sets_append, written_append, written_length, written_none}
use Rattle.answer.specs.counts.Targets.{written}

-- a word moved

pub role_plain : (k i : ℕ) → k < 3 → 0 ≡ role_of k i
unfolding role_of
role_plain k i h = rw (role_of, lt-ltb k 3 h)

pub role_past : (k i : ℕ) → 13 < k → 0 ≡ role_of k i
unfolding role_of
role_past k i h =
    let e : 3 ≤ k = omega arith in
    by_test (ltb i 8) (λ a. rw (role_of, le-ltb k 3 e, a) (past role_table (8 * k + i - 24) (omega arith))) (λ a. rw (role_of, le-ltb k 3 e, a))

pub role_long : (k i : ℕ) → 3 ≤ k → 8 ≤ i → 0 ≡ role_of k i
unfolding role_of
role_long k i h g = rw (role_of, le-ltb k 3 h, le-ltb i 8 g)

pub or_none_lem : (m n : ℕ) → n ≡ 0 → 0 ≡ or_none (λ k. m + k) n
or_none_lem m n e = rw e

pub or_some : (m n : ℕ) → (n ≡ 0 → ⊥) → m + n ≡ or_none (λ k. m + k) n
or_some m zero h = absurd (h refl)
or_some m (suc n) h = omega arith

-- what fits a word
pub under : {a b : ℕ} → a ≡ b → b < 2 ^ 32 → a < 2 ^ 32
under {a} {b} e h = omega arith

module _ (e : Numbers) (k n : ℕ) where
  pub first_variant : k ≡ 2 → e.definitions n ≡ first_to e (definition_of k n)
  first_variant h = sym (ap (λ j. first_to e (definition_of j n)) h)

  pub first_builtin : k ≡ 3 → e.names n ≡ first_to e (definition_of k n)
  first_builtin h = sym (ap (λ j. first_to e (definition_of j n)) h)

  pub second_variant : k ≡ 2 → e.names n ≡ second_to e (definition_of k n)
  second_variant h = sym (ap (λ j. second_to e (definition_of j n)) h)

  pub second_none : (k ≡ 2 → ⊥) → n ≡ second_to e (definition_of k n)
  second_none a = rw (second_to, ne_eqb k 2 a)

  pub seen_public : k ≡ 0 → n ≡ visible_to e k n
  seen_public h = sym (ap (λ j. visible_to e j n) h)

  pub seen_crate : k ≡ 1 → e.crates n ≡ visible_to e k n
  seen_crate h = sym (ap (λ j. visible_to e j n) h)

  pub seen_module : (k ≡ 0 → ⊥) → (k ≡ 1 → ⊥) → e.modules n ≡ visible_to e k n
  seen_module a b = rw (visible_to, ne_eqb k 0 a, ne_eqb k 1 b)

module _ (e : Numbers) (p v n : ℕ) where
  module _ (role : ℕ) where
    pub field_crate : role ≡ 1 → e.crates n ≡ field_to e p v role n
    unfolding field_to
    field_crate h = sym (ap (λ r. field_to e p v r n) h)

    pub field_map : role ≡ 2 → e.maps n ≡ field_to e p v role n
    unfolding field_to
    field_map h = sym (ap (λ r. field_to e p v r n) h)

    pub field_module : role ≡ 3 → e.modules n ≡ field_to e p v role n
    unfolding field_to
    field_module h = sym (ap (λ r. field_to e p v r n) h)

    pub field_parent : role ≡ 4 → or_none e.modules n ≡ field_to e p v role n
    unfolding field_to
    field_parent h = sym (ap (λ r. field_to e p v r n) h)

    pub field_name : role ≡ 5 → e.names n ≡ field_to e p v role n
    unfolding field_to
    field_name h = sym (ap (λ r. field_to e p v r n) h)

    pub field_definition : role ≡ 6 → e.definitions n ≡ field_to e p v role n
    unfolding field_to
    field_definition h = sym (ap (λ r. field_to e p v r n) h)

    pub field_first : role ≡ 7 → first_to e (definition_of p n) ≡ field_to e p v role n
    unfolding field_to
    field_first h = sym (ap (λ r. field_to e p v r n) h)

    pub field_second : role ≡ 8 → second_to e (definition_of p n) ≡ field_to e p v role n
    unfolding field_to
    field_second h = sym (ap (λ r. field_to e p v r n) h)

    pub field_seen : role ≡ 9 → visible_to e v n ≡ field_to e p v role n
    unfolding field_to
    field_seen h = sym (ap (λ r. field_to e p v r n) h)

  pub field_nothing : (role : ℕ) → role ≡ 0 → n ≡ field_to e p v role n
  unfolding field_to
  field_nothing role h = sym (ap (λ r. field_to e p v r n) h)

module _ (e : Numbers) (X : List ℕ) (at : ℕ) where
  pub word_head : (i : ℕ) → i ≡ 0 → moved_word e X at i
      ≡ head_of (kind_of (get_or X at 0))
      (field_to e (pay_of (get_or X at 0)) (get_or X (at + 4) 0) (role_of (kind_of (get_or X at 0)) i) (pay_of (get_or X at 0)))
  unfolding moved_word
  word_head i h = rw h

  pub word_field : (i : ℕ) → (i ≡ 0 → ⊥)
      → moved_word e X at i ≡ field_to e (pay_of (get_or X at 0)) (get_or X (at + 4) 0) (role_of (kind_of (get_or X at 0)) i) (get_or X (at + i) 0)
  unfolding moved_word
  word_field i h = rw (moved_word, ne_eqb i 0 h)

module _ (e : Numbers) (X : List ℕ) (at i : ℕ) {k p v role : ℕ} (a : k ≡ kind_of (get_or X at 0)) (b : p ≡ pay_of (get_or X at 0))
    (c : v ≡ get_or X (at + 4) 0)
    (d : role ≡ role_of k i)
  where
    pub head_is : i ≡ 0 → k * 268435456 + field_to e p v role p ≡ moved_word e X at i
    head_is h = cc (word_head e X at i h)

    pub field_is : {w : ℕ} → (i ≡ 0 → ⊥) → w ≡ get_or X (at + i) 0 → field_to e p v role w ≡ moved_word e X at i
    field_is h q = cc (word_field e X at i h)

-- words stored from a place on

pub store_start : (f : ℕ → ℕ) (T : List ℕ) (to : ℕ) → T ≡ sets T to (rows f 0 0)
unfolding rows
store_start f T to = refl

pub store_next : (f : ℕ → ℕ) {T : List ℕ} (T₀ : List ℕ) (to i v : ℕ) → T ≡ sets T₀ to (rows f 0 i) → v ≡ f i
    → set T (to + i) v ≡ sets T₀ to (rows f 0 (i + 1))
store_next f {T} T₀ to i v e q =
    ap₂ (λ l w. set l (to + i) w) e q ∙ ap (λ k. set (sets T₀ to (rows f 0 i)) (to + k) (f i)) (sym (length_rows f i))
    ∙ sym (sets_append T₀ (rows f 0 i) (f i ∷ []) to) ∙ ap (sets T₀ to) (sym (rows_snoc f i))

-- words that are written, or only counted

pub wrote_size : {write : Bool} {at r : ℕ} {ws T U : List ℕ} → Wrote write at ws T U r → length U ≡ length T
wrote_size {write} {at} {r} {ws} {T} w = ap length w.same ∙ written_length write at ws T

pub wrote_none : {write : Bool} {at : ℕ} {ws T : List ℕ} → ws ≡ [] → Wrote write at ws T T at
wrote_none {write} {at} {ws} {T} e =
    let n = ap length e in
    record { next = omega arith; same = sym (ap (λ y. written write at y T) e ∙ written_none write at T) }

pub wrote_as : {write : Bool} {at r : ℕ} {xs ys T U : List ℕ} → Wrote write at xs T U r → xs ≡ ys → Wrote write at ys T U r
wrote_as {write} {at} {r} {xs} {ys} {T} {U} w e = subst (λ zs. Wrote write at zs T U r) e w

pub space_as : {write : Bool} {at : ℕ} {xs ys T : List ℕ} → Space write at xs T → xs ≡ ys → Space write at ys T
space_as {write} {at} {xs} {ys} {T} s e = subst (λ zs. Space write at zs T) e s

module _ {write : Bool} {at : ℕ} (xs ys : List ℕ) {T : List ℕ} (space : Space write at (xs ++ ys) T) where
  pub space_first : Space write at xs T
  space_first =
      let n = length-append xs ys in
      let h = space.small in
      record {
        small = omega arith;
        room = λ t. let q = space.room t in omega arith;
        fits = λ t i l. subst (λ w. w < 2 ^ 32) (get_or-append xs ys 0 i l) (space.fits t i (omega arith));
      }

  pub space_rest : {U : List ℕ} {r : ℕ} → Wrote write at xs T U r → Space write r ys U
  space_rest {U} {r} w =
      let n = length-append xs ys in
      let h = space.small in
      let e = w.next in
      let z = wrote_size w in
      record {
        small = omega arith;
        room = λ t. let q = space.room t in omega arith;
        fits = λ t i l. subst (λ w. w < 2 ^ 32) (get_or-append-add xs ys i 0) (space.fits t (length xs + i) (omega arith));
      }

pub wrote_both : {write : Bool} {at r q : ℕ} {xs ys T U Y : List ℕ} → Wrote write at xs T U r → Wrote write r ys U Y q
    → Wrote write at (xs ++ ys) T Y q
wrote_both {write} {at} {r} {q} {xs} {ys} {T} {U} {Y} w v =
    let n = length-append xs ys in
    let a = w.next in
    let b = v.next in
    record {
      next = omega arith;
      same = v.same ∙ ap₂ (λ k l. written write k ys l) a w.same ∙ written_append write at xs ys T;
    }

-- n words, only counted or stored one after the other

pub counted : (f : ℕ → ℕ) {write : Bool} {to : ℕ} (n : ℕ) {T : List ℕ} → not write ≡ true → Wrote write to (rows f 0 n) T T (to + n)
unfolding written
counted f {write} {to} n {T} e =
    let l = length_rows f n in
    record { next = omega arith; same = sym (ap (λ b. written b to (rows f 0 n) T) (not-true write e)) }

pub stored : (f : ℕ → ℕ) {write : Bool} {to : ℕ} (n i : ℕ) (T₀ : List ℕ) {T : List ℕ} → not write ≡ false → i ≤ n → n ≤ i
    → T ≡ sets T₀ to (rows f 0 i)
    → Wrote write to (rows f 0 n) T₀ T (to + n)
unfolding written
stored f {write} {to} n i T₀ {T} e a b q =
    let l = length_rows f n in
    let k : i ≡ n = omega arith in
    record { next = omega arith; same = q ∙ ap (λ j. sets T₀ to (rows f 0 j)) k ∙ sym (ap (λ b. written b to (rows f 0 n) T₀) (not-false write e)) }

-- by the code's count of them
module _ (f : ℕ → ℕ) {n m : ℕ} {write : Bool} {to : ℕ} {T₀ : List ℕ} where
  pub counted_space : Space write to (rows f 0 (1 + m)) T₀ → n ≡ m → Space write to (rows f 0 (1 + n)) T₀
  counted_space s e = space_as s (ap (λ k. rows f 0 (1 + k)) (sym e))

  pub counted_as : n ≡ m → {r : ℕ} {T : List ℕ} → Wrote write to (rows f 0 (1 + n)) T₀ T r → Wrote write to (rows f 0 (1 + m)) T₀ T r
  counted_as e w = wrote_as w (ap (λ k. rows f 0 (1 + k)) e)

module _ (f : ℕ → ℕ) (n : ℕ) {write : Bool} {to : ℕ} {T₀ : List ℕ} (space : Space write to (rows f 0 n) T₀) where
  pub space_small : to + n ≤ 2 ^ 50
  space_small = let l = length_rows f n in let h = space.small in omega arith

  module _ (w : not write ≡ false) where
    pub space_room : to + n ≤ length T₀
    space_room = let l = length_rows f n in let h = space.room (not-false write w) in omega arith

    pub space_fits : (i : ℕ) → i < n → f i < 2 ^ 32
    space_fits i h =
        let l = length_rows f n in
        subst (λ x. x < 2 ^ 32) (get_d_rows f 0 n i h) (space.fits (not-false write w) i (omega arith))

    pub stored_size : {T : List ℕ} (i : ℕ) → T ≡ sets T₀ to (rows f 0 i) → length T ≡ length T₀
    stored_size i e = ap length e ∙ length-sets T₀ to (rows f 0 i)

-- of the words that are to be put some are, and these are left
pub record Going (write : Bool) (ws : List ℕ) (to : ℕ) (T₀ left : List ℕ) (t : ℕ) (T : List ℕ) : Type 0 where
  pub passed : List ℕ
  pub whole : ws ≡ passed ++ left
  pub wrote : Wrote write to passed T₀ T t

pub going_start : (write : Bool) {ws left : List ℕ} (to : ℕ) (T : List ℕ) → ws ≡ left → Going write ws to T left to T
going_start write to T e = record { passed = []; whole = e; wrote = wrote_none refl }

module _ {write : Bool} {ws : List ℕ} {to : ℕ} {T₀ left : List ℕ} {t : ℕ} {T : List ℕ} (g : Going write ws to T₀ left t T) where
  pub going_space : (xs ys : List ℕ) → left ≡ xs ++ ys → Space write to ws T₀ → Space write t xs T
  going_space xs ys e s =
      space_first xs ys (space_as (space_rest g.passed left (space_as s g.whole) g.wrote) e)

  pub going_next : {xs ys U : List ℕ} {r : ℕ} → left ≡ xs ++ ys → Wrote write t xs T U r → Going write ws to T₀ ys r U
  going_next {xs} {ys} e w =
      record {
        passed = g.passed ++ xs;
        whole = g.whole ∙ ap (λ l. g.passed ++ l) e ∙ sym (append_assoc g.passed xs ys);
        wrote = wrote_both g.wrote w;
      }

  pub going_done : left ≡ [] → Wrote write to ws T₀ T t
  going_done e = wrote_as g.wrote (sym (g.whole ∙ ap (λ l. g.passed ++ l) e ∙ append-nil g.passed))

-- the walk over the records

module _ (A : List ℕ) (l : Layout) (X : List ℕ) (at n : ℕ) where
  pub kept_name : {k r : ℕ} → k ≡ kind_of (get_or X at 0) → k ≡ 1 → r ≡ get_or A (name_table + n) 0 → leb l.names r ≡ kept_at A l X at n
  unfolding kept_at
  kept_name {k} {r} a b e = rw (kept_at, eq-eqb (kind_of (get_or X at 0)) 1 (sym a ∙ b), e)

  pub kept_definition : {k r : ℕ} → k ≡ kind_of (get_or X at 0) → k ≡ 8 → r ≡ get_or A (definition_table + n) 0
      → leb l.definitions r ≡ kept_at A l X at n
  unfolding kept_at
  kept_definition {k} {r} a b e =
      let q : kind_of (get_or X at 0) ≡ 8 = sym a ∙ b in
      rw (kept_at, ne_eqb (kind_of (get_or X at 0)) 1 (λ z. omega arith), eq-eqb (kind_of (get_or X at 0)) 8 q, e)

  pub kept_other : {k : ℕ} → k ≡ kind_of (get_or X at 0) → (k ≡ 1 → ⊥) → (k ≡ 8 → ⊥) → true ≡ kept_at A l X at n
  unfolding kept_at
  kept_other {k} a b c = rw (kept_at, ne_eqb (kind_of (get_or X at 0)) 1 (λ z. b (a ∙ z)), ne_eqb (kind_of (get_or X at 0)) 8 (λ z. c (a ∙ z)))

  module _ {r : Bool} (a : r ≡ kept_at A l X at n) where
    pub kept_not : not r ≡ true → kept_words A l X at n ≡ []
    unfolding kept_words
    kept_not h = rw (kept_words, ← a, not-true r h)

    pub kept_is : not r ≡ false → moved_at (numbers_of A l) X at ≡ kept_words A l X at n
    unfolding kept_words
    kept_is h = rw (kept_words, ← a, not-false r h)

-- the words that a walk has still to put, with what bounds it
pub record Left (A : List ℕ) (l : Layout) (X : List ℕ) (at end n : ℕ) (ws : List ℕ) : Type 0 where
  pub fuel : ℕ
  pub enough : end ≤ fuel + at
  pub same : ws ≡ walked fuel A l X at end n

pub left_start : (A : List ℕ) (l : Layout) (X : List ℕ) (from end : ℕ) → Left A l X from end 0 (moved_run A l X from end)
left_start A l X from end = record { fuel = end - from; enough = omega arith; same = refl }

module _ {A : List ℕ} {l : Layout} {X : List ℕ} {at end n : ℕ} {ws : List ℕ} (g : Left A l X at end n ws) where
  pub left_none : end ≤ at → ws ≡ []
  unfolding walked
  left_none h = g.same ∙ none g.fuel
    where
      none : (f : ℕ) → walked f A l X at end n ≡ []
      none zero = refl
      none (suc f) = rw (walked, le-ltb at end h)

  -- one record less
  pub record Less : Type 0 where
    pub rest : List ℕ
    pub split : ws ≡ kept_words A l X at n ++ rest
    pub left : Left A l X (at + 1 + arguments_at X at) end (n + 1) rest

  pub left_next : at < end → Less
  unfolding walked
  left_next h = next g.fuel g.enough g.same
    where
      next : (f : ℕ) → end ≤ f + at → ws ≡ walked f A l X at end n → Less
      next zero e q = absurd (omega arith)
      next (suc f) e q =
          record {
            rest = walked f A l X (at + 1 + arguments_at X at) end (n + 1);
            split = q ∙ rw (walked, lt-ltb at end h);
            left = record { fuel = f; enough = omega arith; same = refl };
          }

-- a walk that puts the records
pub record Walking (write : Bool) (A : List ℕ) (l : Layout) (X ws : List ℕ) (to : ℕ) (T₀ : List ℕ) (end at n t : ℕ) (T : List ℕ) : Type 0 where
  pub low : n ≤ at
  pub rest : List ℕ
  pub left : Left A l X at end n rest
  pub going : Going write ws to T₀ rest t T

pub walking_start : (write : Bool) (A : List ℕ) (l : Layout) (X : List ℕ) (to : ℕ) (T : List ℕ) (from end : ℕ)
    → Walking write A l X (moved_run A l X from end) to T end from 0 to T
walking_start write A l X to T from end =
    record {
      low = omega arith;
      rest = moved_run A l X from end;
      left = left_start A l X from end;
      going = going_start write to T refl;
    }

module _ {write : Bool} {A : List ℕ} {l : Layout} {X ws : List ℕ} {to : ℕ} {T₀ : List ℕ} {end at n t : ℕ} {T : List ℕ}
    (w : Walking write A l X ws to T₀ end at n t T)
  where
    pub walking_space : at < end → Space write to ws T₀ → Space write t (kept_words A l X at n) T
    walking_space h s =
        let m = left_next w.left h in
        going_space w.going (kept_words A l X at n) m.rest m.split s

    pub walking_next : at < end → {U : List ℕ} {r k : ℕ} → Wrote write t (kept_words A l X at n) T U r → k ≡ arguments_at X at
        → Walking write A l X ws to T₀ end (at + 1 + k) (n + 1) r U
    walking_next h {U} {r} {k} v e =
        let m = left_next w.left h in
        let o = w.low in
        record {
          low = omega arith;
          rest = m.rest;
          left = subst (λ j. Left A l X (at + 1 + j) end (n + 1) m.rest) (sym e) m.left;
          going = going_next w.going m.split v;
        }

    pub walking_done : end ≤ at → Wrote write to ws T₀ T t
    walking_done h = going_done w.going (left_none w.left h)

-- where the kinds begin

pub base_is : (l : Layout) (k : ℕ) {a b c d f g h i j m : ℕ} → a ≡ dependency_base l → b ≡ map_base l → c ≡ child_base l
    → d ≡ prelude_base l → f ≡ definition_base l
    → g ≡ scope_base l → h ≡ import_base l → i ≡ extern_base l → j ≡ member_base l → m ≡ member_base l
    → get_or (0 ∷ l.text ∷ a ∷ b ∷ c ∷ d ∷ f ∷ g ∷ h ∷ i ∷ j ∷ (m + 5 * l.members) ∷ []) k 0 ≡ base_of l k
unfolding base_of
base_is l k p1 p2 p3 p4 p5 p6 p7 p8 p9 p10 = rw (p1, p2, p3, p4, p5, p6, p7, p8, p9, p10)

pub base_rise : (l : Layout) (k : ℕ) → k < 11 → (base_of l k ≤ base_of l (k + 1)) × (base_of l (k + 1) ≤ word_count l)
unfolding base_of
base_rise l zero h = (omega arith, omega arith)
base_rise l (suc zero) h = (omega arith, omega arith)
base_rise l (suc (suc zero)) h = (omega arith, omega arith)
base_rise l (suc (suc (suc zero))) h = (omega arith, omega arith)
base_rise l (suc (suc (suc (suc zero)))) h = (omega arith, omega arith)
base_rise l (suc (suc (suc (suc (suc zero))))) h = (omega arith, omega arith)
base_rise l (suc (suc (suc (suc (suc (suc zero)))))) h = (omega arith, omega arith)
base_rise l (suc (suc (suc (suc (suc (suc (suc zero))))))) h = (omega arith, omega arith)
base_rise l (suc (suc (suc (suc (suc (suc (suc (suc zero)))))))) h = (omega arith, omega arith)
base_rise l (suc (suc (suc (suc (suc (suc (suc (suc (suc zero))))))))) h = (omega arith, omega arith)
base_rise l (suc (suc (suc (suc (suc (suc (suc (suc (suc (suc zero)))))))))) h = (omega arith, omega arith)
base_rise l (suc (suc (suc (suc (suc (suc (suc (suc (suc (suc (suc k))))))))))) h = absurd (omega arith)

-- one kind: the first's words, then the second's
module _ (A : List ℕ) {l m : Layout} {W X : List ℕ} {k : ℕ} {write : Bool} {to : ℕ} {T : List ℕ} (one : Whole W l) (two : Whole X m) (low : k < kinds)
    (space : Space write to (kind_to A l m W X k) T) {a b : ℕ} (p : a ≡ base_of l k) (q : b ≡ base_of l (k + 1))
  where
    part_same : run_of W (base_of l k) (base_of l (k + 1)) ≡ run_of W a b
    part_same = ap₂ (run_of W) (sym p) (sym q)

    both : Space write to (run_of W (base_of l k) (base_of l (k + 1)) ++ moved_run A l X (base_of m k) (base_of m (k + 1))) T
    unfolding kind_to
    both = space

    pub copy_ready : (a ≤ b) × (b ≤ length W) × Space write to (run_of W a b) T
    copy_ready =
        let r = base_rise l k low in
        let r0 = r.0 in
        let r1 = r.1 in
        let w = one.whole in
        (omega arith, omega arith, space_as (space_first _ (moved_run A l X (base_of m k) (base_of m (k + 1))) both) part_same)

    module _ {c d r : ℕ} {U : List ℕ} (e : c ≡ base_of m k) (f : d ≡ base_of m (k + 1)) (w : Wrote write to (run_of W a b) T U r) where
      run_same : moved_run A l X (base_of m k) (base_of m (k + 1)) ≡ moved_run A l X c d
      run_same = ap₂ (moved_run A l X) (sym e) (sym f)

      pub moved_ready : (d ≤ word_limit) × Space write r (moved_run A l X c d) U
      moved_ready =
          let g = (base_rise m k low).1 in
          let h = two.whole in
          let o = two.short in
          (omega arith, space_as (space_rest _ (moved_run A l X (base_of m k) (base_of m (k + 1))) both (wrote_as w (sym part_same))) run_same)

      pub kind_wrote : {Y : List ℕ} {n : ℕ} → Wrote write r (moved_run A l X c d) U Y n → Wrote write to (kind_to A l m W X k) T Y n
      unfolding kind_to
      kind_wrote v = wrote_both (wrote_as w (sym part_same)) (wrote_as v (sym run_same))

-- lists one after the other, from one on

pub joined_next : (f : ℕ → List ℕ) (k n : ℕ) → k < n → joined (rows f k (n - k)) ≡ f k ++ joined (rows f (k + 1) (n - (k + 1)))
unfolding joined
joined_next f k n h = ap joined (rows_next f k n h)

pub joined_end : (f : ℕ → List ℕ) (k n : ℕ) → n ≤ k → joined (rows f k (n - k)) ≡ []
unfolding joined
joined_end f k n h = ap joined (rows_none f k n h)

-- how many words there are at most, whatever the inputs hold

kept_short : (A : List ℕ) (l : Layout) (X : List ℕ) (at n : ℕ) → length (kept_words A l X at n) ≤ 1 + arguments_at X at
unfolding kept_words
kept_short A l X at n = by (kept_at A l X at n)
  where
    by : (b : Bool) → length {A = ℕ} (elim b [ true ↦ moved_at (numbers_of A l) X at | false ↦ [] ]) ≤ 1 + arguments_at X at
    by true = let h = length_rows (moved_word (numbers_of A l) X at) (1 + arguments_at X at) in omega arith
    by false = omega arith

walked_end : (f : ℕ) (A : List ℕ) (l : Layout) (X : List ℕ) (at end n : ℕ) → end ≤ at → walked f A l X at end n ≡ []
unfolding walked
walked_end zero A l X at end n h = refl
walked_end (suc f) A l X at end n h = rw (walked, le-ltb at end h)

walked_short : (f : ℕ) (A : List ℕ) (l : Layout) (X : List ℕ) (at end n : ℕ) → length (walked f A l X at end n) ≤ (end - at) + 2 ^ 29
unfolding walked
walked_short zero A l X at end n = omega arith
walked_short (suc f) A l X at end n =
    let k = arguments_at X at in
    let few = arguments_few X at k refl in
    let c = kept_short A l X at n in
    let rest = walked f A l X (at + 1 + k) end (n + 1) in
    let sum = length-append (kept_words A l X at n) rest in
    by_test (ltb at end)
    (λ a.
    let z = ltb-true at end a in
    let e : walked (suc f) A l X at end n ≡ kept_words A l X at n ++ rest = rw (walked, a) in
    let w = ap length e in
    by_test (leb end (at + 1 + k))
    (λ b. let o = ap length (walked_end f A l X (at + 1 + k) end (n + 1) (leb-true end (at + 1 + k) b)) in omega arith)
    (λ b. let o = leb-false end (at + 1 + k) b in let r = walked_short f A l X (at + 1 + k) end (n + 1) in omega arith))
    (λ a. let w = ap length (walked_end (suc f) A l X at end n (ltb-false at end a)) in omega arith)

joined_short : (f : ℕ → List ℕ) (top k n : ℕ) → ((i : ℕ) → i < k + n → length (f i) ≤ top) → length (joined (rows f k n)) ≤ n * top
unfolding joined rows
joined_short f top k zero h = omega arith
joined_short f top k (suc n) h =
    let a = h k (omega arith) in
    let b = joined_short f top (k + 1) n (λ i z. h i (omega arith)) in
    let c = length-append (f k) (joined (rows f (k + 1) n)) in
    let d : suc n * top ≡ top + n * top = omega arith in
    omega arith

pub words_few : (A : List ℕ) {l m : Layout} {W X : List ℕ} → Whole W l → Whole X m → length (words_to A l m W X) ≤ 2 ^ 50
unfolding kind_to
words_few A {l} {m} {W} {X} one two =
    let h = joined_short (kind_to A l m W X) (2 ^ 30) 0 kinds
    (λ k z.
    let from = base_of l k in
    let end = base_of l (k + 1) in
    let a = (base_rise l k z).1 in
    let b = (base_rise m k z).1 in
    let c = walked_short (base_of m (k + 1) - base_of m k) A l X (base_of m k) (base_of m (k + 1)) 0 in
    let d = length_rows (λ i. get_or W (from + i) 0) (end - from) in
    let e = length-append (run_of W from end) (moved_run A l X (base_of m k) (base_of m (k + 1))) in
    let o = one.whole in
    let p = one.short in
    let q = two.whole in
    let r = two.short in
    omega arith) in
    omega arith
