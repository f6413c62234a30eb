-- Laws of choices, for the code.
use Prim.Native.Nat.compare
use Prim.Native.Nat.{ℕ, zero, suc, ◌+◌, ◌-◌, ◌≤◌, ◌<◌, min, compare, Ordering}
use mathlib.Core.Path.{◌≡◌, refl, sym, ◌∙◌, ap, ap₂}
use mathlib.Core.List.{List, [], ◌∷◌}
use mathlib.Core.Bool.{Bool, true, false, ◌&&◌, and-true, true≢false, false≢true}
use native.Mathlib.Omega.{arith}
use Rattle.std.specs.Prelude.{Option, None, Some, is_some, cond}
use Rattle.std.specs.declared.cmp.Ordering.{Ordering as Order}
use Rattle.std.specs.declared.cmp.Ordering.TheVariants.{Less, Equal, Greater}
use Rattle.std.specs.Ordering.{is_gt, bool_cmp, nat_cmp, ordering_then}
use lib.Dec.{eqb, ltb, leb-zero, leb-suc-zero, leb-suc-suc, eqb-zero-suc, eqb-suc-zero, eqb-suc-suc}
use lib.ListN.{get_or, set, replicate}
use borrow.Author.Tests.{eqb-true}
use Rattle.snapshot.specs.Lists.{rows, eq_list}
use Rattle.snapshot.specs.Words.{pay_of, words_of}
use Rattle.snapshot.specs.Records.{Snapshot}
use Rattle.snapshot.specs.Layouts.{name_head, snap_of}
use Rattle.snapshot.specs.declared.layout.Layout.{Layout}
use Rattle.snapshot.proofs.Laws.{past}
use Rattle.accept.specs.Post.{Reads}
use Rattle.find_path_choice.specs.Choices.{Choice}
use Rattle.find_path_choice.specs.declared.Choice.{Choice as Path}
use Rattle.find_path_choice.specs.Given.{given}
use Rattle.find_path_choice.proofs.Names.{name_read}
use Rattle.find_path_choice.specs.Choices.{name_len, is_prelude, path_kind_len, path_len, keyword, choice_new, extended, push}
use Rattle.find_path_choice.specs.Choices.{try_select, compare_bool, and_then, compare_prelude, taken, better, shorter_if, length_left}

-- an answer is a path where the code has one
pub given_some : (o : Option Path) → is_some o ≡ (given o).found
given_some None = refl
given_some (Some c) = refl

-- the branch of a test
module _ {A : Type 0} (a b : A) where
  pub taken_true : (t : Bool) → t ≡ true → a ≡ elim t [ true ↦ a | false ↦ b ]
  taken_true true e = refl
  taken_true false e = absurd (false≢true e)

  pub taken_false : (t : Bool) → t ≡ false → b ≡ elim t [ true ↦ a | false ↦ b ]
  taken_false true e = absurd (true≢false e)
  taken_false false e = refl

module _ (W A : List ℕ) (l : Layout) (r : Reads W A l) (n : ℕ) (h : n < l.names) where
  -- seven bytes stand in three words
  three : (b : ℕ) (f : ℕ → ℕ) → (eqb b 7 && (eqb (f 0) 0x657270 && (eqb (f 1) 0x64756C && eqb (f 2) 0x65)))
      ≡ (eqb b 7 && eq_list (rows f 0 (words_of b)) (0x657270 ∷ 0x64756C ∷ 0x65 ∷ []))
  unfolding rows eq_list
  three b f = by (eqb b 7) refl
    where
      seven : eq_list (rows f 0 (words_of 7)) (0x657270 ∷ 0x64756C ∷ 0x65 ∷ []) ≡ (eqb (f 0) 0x657270 && (eqb (f 1) 0x64756C && eqb (f 2) 0x65))
      seven = ap (λ x. eqb (f 0) 0x657270 && (eqb (f 1) 0x64756C && x)) (and-true (eqb (f 2) 0x65))

      by : (t : Bool) → eqb b 7 ≡ t → (t && (eqb (f 0) 0x657270 && (eqb (f 1) 0x64756C && eqb (f 2) 0x65)))
          ≡ (t && eq_list (rows f 0 (words_of b)) (0x657270 ∷ 0x64756C ∷ 0x65 ∷ []))
      by true e = sym (ap (λ x. eq_list (rows f 0 (words_of x)) (0x657270 ∷ 0x64756C ∷ 0x65 ∷ [])) (eqb-true b 7 e) ∙ seven)
      by false e = refl

  pub name_prelude : (eqb (pay_of (get_or W (name_head A n) 0)) 7
      && (eqb (get_or W (name_head A n + 1) 0) 0x657270
      && (eqb (get_or W (name_head A n + 2) 0) 0x64756C && eqb (get_or W (name_head A n + 3) 0) 0x65)))
      ≡ is_prelude (snap_of W A l) n
  unfolding is_prelude
  name_prelude =
      let a : name_head A n + 1 ≡ name_head A n + 1 + 0 = omega arith in
      let b : name_head A n + 2 ≡ name_head A n + 1 + 1 = omega arith in
      let c : name_head A n + 3 ≡ name_head A n + 1 + 2 = omega arith in
      ap (λ x. eqb (pay_of (get_or W (name_head A n) 0)) 7 &&
      (eqb (get_or W x 0) 0x657270 && (eqb (get_or W (name_head A n + 2) 0) 0x64756C && eqb (get_or W (name_head A n + 3) 0) 0x65))) a
      ∙ ap₂ (λ x y. eqb (pay_of (get_or W (name_head A n) 0)) 7 && (eqb (get_or W (name_head A n + 1 + 0) 0) 0x657270 &&
      (eqb (get_or W x 0) 0x64756C && eqb (get_or W y 0) 0x65))) b c
      ∙ three (pay_of (get_or W (name_head A n) 0)) (λ i. get_or W (name_head A n + 1 + i) 0)
      ∙ ap (λ x. eqb x.bytes 7 && eq_list x.text (0x657270 ∷ 0x64756C ∷ 0x65 ∷ [])) (name_read W A l r n h)

table_most : (most : ℕ) (a b c d e k : ℕ) → a ≤ most → b ≤ most → c ≤ most → d ≤ most → e ≤ most → get_or (a ∷ b ∷ c ∷ d ∷ e ∷ []) k 0 ≤ most
table_most most a b c d e zero p q r s t = p
table_most most a b c d e (suc zero) p q r s t = q
table_most most a b c d e (suc (suc zero)) p q r s t = r
table_most most a b c d e (suc (suc (suc zero))) p q r s t = s
table_most most a b c d e (suc (suc (suc (suc zero)))) p q r s t = t
table_most most a b c d e (suc (suc (suc (suc (suc k))))) p q r s t = omega arith

pub kind_text : (k : ℕ) → get_or (0 ∷ 4 ∷ 5 ∷ 5 ∷ 2 ∷ []) k 0 ≤ 5
kind_text k = table_most 5 0 4 5 5 2 k (omega arith) (omega arith) (omega arith) (omega arith) (omega arith)

pub kind_names : (k : ℕ) → get_or (0 ∷ 0 ∷ 1 ∷ 1 ∷ 0 ∷ []) k 0 ≤ 1
kind_names k = table_most 1 0 0 1 1 0 k (omega arith) (omega arith) (omega arith) (omega arith) (omega arith)

pub kind_past : (k : ℕ) → 5 ≤ k → 0 ≡ path_kind_len k
unfolding path_kind_len
kind_past k h = past (0 ∷ 4 ∷ 5 ∷ 5 ∷ 2 ∷ []) k h

pub len_past : (c : Choice) → 5 ≤ c.kind → c.count ≡ path_len c
unfolding path_len
len_past c h = let e = past (0 ∷ 0 ∷ 1 ∷ 1 ∷ 0 ∷ []) c.kind h in omega arith

-- the orders of the code as those of the definitions
abbrev order_of : Order → Ordering
order_of Less = Ordering.lt
order_of Equal = Ordering.eq
order_of Greater = Ordering.gt

order_bool : (x y : Bool) → order_of (bool_cmp x y) ≡ compare_bool x y
unfolding compare_bool
order_bool false false = refl
order_bool false true = refl
order_bool true false = refl
order_bool true true = refl

pub prelude_first : (x y : Bool) {p : Bool} {z : Order} → p ≡ true → z ≡ bool_cmp y x → order_of z ≡ compare_prelude p x y
unfolding compare_prelude
prelude_first x y f e = ap order_of e ∙ order_bool y x ∙ ap (λ p. compare_prelude p x y) (sym f)

pub prelude_last : (x y : Bool) {p : Bool} {z : Order} → p ≡ false → z ≡ bool_cmp x y → order_of z ≡ compare_prelude p x y
unfolding compare_prelude
prelude_last x y f e = ap order_of e ∙ order_bool x y ∙ ap (λ p. compare_prelude p x y) (sym f)

abbrev by_tests : Bool → Bool → Ordering
by_tests less same = order_of (cond less Less (cond same Equal Greater))

order_nat : (m n : ℕ) → order_of (nat_cmp m n) ≡ compare m n
order_nat zero zero = refl
order_nat zero (suc n) = ap₂ by_tests (leb-suc-suc zero n ∙ leb-zero n) (eqb-zero-suc n) ∙ sym (compare.zero-suc n)
order_nat (suc m) zero = ap₂ by_tests (leb-suc-zero (suc m)) (eqb-suc-zero m) ∙ sym (compare.suc-zero m)
order_nat (suc m) (suc n) = ap₂ by_tests (leb-suc-suc (suc m) n) (eqb-suc-suc m n) ∙ order_nat m n ∙ sym (compare.suc-suc m n)

order_then : (a b c : Order) → order_of (ordering_then (ordering_then a b) c) ≡ and_then (order_of a) (and_then (order_of b) (order_of c))
unfolding and_then
order_then Less b c = refl
order_then Equal Less c = refl
order_then Equal Equal c = refl
order_then Equal Greater c = refl
order_then Greater b c = refl

nat_after : (m n : ℕ) → is_gt (nat_cmp m n) ≡ ltb n m
nat_after zero zero = refl
nat_after zero (suc n) = ap₂ (λ x y. is_gt (cond x Less (cond y Equal Greater))) (leb-suc-suc zero n ∙ leb-zero n) (eqb-zero-suc n)
    ∙ sym (leb-suc-zero (suc n))
nat_after (suc m) zero = ap₂ (λ x y. is_gt (cond x Less (cond y Equal Greater))) (leb-suc-zero (suc m)) (eqb-suc-zero m)
    ∙ sym (leb-suc-suc zero m ∙ leb-zero m)
nat_after (suc m) (suc n) = ap₂ (λ x y. is_gt (cond x Less (cond y Equal Greater))) (leb-suc-suc (suc m) n) (eqb-suc-suc m n)
    ∙ nat_after m n ∙ sym (leb-suc-suc (suc n) m)

order_taken : (o : Order) (m n : ℕ) → is_gt (ordering_then o (nat_cmp m n)) ≡ taken (order_of o) (ltb n m)
unfolding taken
order_taken Less m n = refl
order_taken Equal m n = nat_after m n
order_taken Greater m n = refl

-- the code's test, the order of all four
pub better_same : (s : Snapshot) (p : Bool) (cur oth : Choice) (n : ℕ) {a b k : ℕ} (z : Order) → a ≡ path_len cur → b ≡ path_len oth
    → k ≡ name_len s n → order_of z ≡ compare_prelude p cur.has_prelude_segment oth.has_prelude_segment
    → is_gt (ordering_then (ordering_then (ordering_then (bool_cmp oth.stable cur.stable) z) (nat_cmp a (b + 1)))
    (nat_cmp cur.path_text_len (oth.path_text_len + k)))
    ≡ better s p cur oth n
unfolding better
better_same s p cur oth n {a} {b} {k} z ea eb ek ez =
    let f : order_of (nat_cmp a (b + 1)) ≡ compare (path_len cur) (path_len oth + 1) =
    order_nat a (b + 1) ∙ ap₂ (λ x y. compare x (y + 1)) ea eb in
    order_taken _ cur.path_text_len (oth.path_text_len + k)
    ∙ ap₂ (λ x y. taken x (ltb (oth.path_text_len + y) cur.path_text_len))
    (order_then (bool_cmp oth.stable cur.stable) z (nat_cmp a (b + 1))
    ∙ ap₂ (λ x y. and_then x y) (order_bool oth.stable cur.stable) (ap₂ (λ x y. and_then x y) ez f))
    ek

pub left_none : (left : ℕ) (c : Choice) → c.found ≡ false → left - 1 ≡ length_left left c
unfolding length_left shorter_if
left_none left c e = sym (ap (λ b. shorter_if b left (path_len c)) e)

pub left_less : (left n : ℕ) (c : Choice) → c.found ≡ true → n ≡ path_len c → n < left → n - 1 ≡ length_left left c
unfolding length_left shorter_if
left_less left n c e f h = sym (ap₂ (λ b m. shorter_if b left m) e (sym f) ∙ ap (λ x. x - 1) (let q : min left n ≡ n = omega arith in q))

pub left_more : (left n : ℕ) (c : Choice) → c.found ≡ true → n ≡ path_len c → left ≤ n → left - 1 ≡ length_left left c
unfolding length_left shorter_if
left_more left n c e f h = sym (ap₂ (λ b m. shorter_if b left m) e (sym f) ∙ ap (λ x. x - 1) (let q : min left n ≡ left = omega arith in q))

-- choices as the code makes them

pub keyword_same : (k : ℕ) {t : ℕ} → t ≡ path_kind_len k
    → ◌≡◌ {A = Choice}
    (record {
      found = true;
      kind = k;
      names = replicate 16 0;
      count = 0;
      path_text_len = t;
      stable = true;
      has_prelude_segment =
          false;
      route = set (replicate 17 0) 0 4;
      steps = 1;
    })
    (keyword k)
unfolding keyword
keyword_same k e =
    λ i. record {
      found = true;
      kind = k;
      names = replicate 16 0;
      count = 0;
      path_text_len = e i;
      stable = true;
      has_prelude_segment =
          false;
      route = set (replicate 17 0) 0 4;
      steps = 1;
    }

pub new_same : (s : Snapshot) (k n via : ℕ) {t : ℕ} {b : Bool} → t ≡ path_kind_len k + name_len s n → b ≡ is_prelude s n
    → ◌≡◌ {A = Choice}
    (record {
      found = true;
      kind = k;
      names = set (replicate 16 0) 0 n;
      count = 1;
      path_text_len = t;
      stable =
          true;
      has_prelude_segment = b;
      route = set (replicate 17 0) 0 via;
      steps = 1;
    })
    (choice_new s k n via)
unfolding choice_new
new_same s k n via e f =
    λ i. record {
      found = true;
      kind = k;
      names = set (replicate 16 0) 0 n;
      count = 1;
      path_text_len = e i;
      stable =
          true;
      has_prelude_segment = f i;
      route = set (replicate 17 0) 0 via;
      steps = 1;
    }

pub extended_same : (s : Snapshot) (c : Choice) (n via : ℕ) (b : Bool) {t : ℕ} → t ≡ c.path_text_len + name_len s n
    → ◌≡◌ {A = Choice}
    (record {
      found = true;
      kind = c.kind;
      names = set c.names c.count n;
      count = c.count + 1;
      path_text_len = t;
      stable = c.stable;
      has_prelude_segment = b;
      route = set c.route c.steps via;
      steps = c.steps + 1;
    })
    (extended s c n via b)
unfolding extended
extended_same s c n via b e =
    λ i.
    record {
      found = true;
      kind = c.kind;
      names = set c.names c.count n;
      count = c.count + 1;
      path_text_len = e i;
      stable = c.stable;
      has_prelude_segment = b;
      route = set c.route c.steps via;
      steps = c.steps + 1;
    }

kept : (x y z : Choice) (b d : Bool) → b ≡ true → d ≡ false → y ≡ elim b [ true ↦ elim d [ true ↦ x | false ↦ y ] | false ↦ z ]
kept x y z true true e f = absurd (true≢false f)
kept x y z true false e f = refl
kept x y z false d e f = absurd (false≢true e)

module _ (s : Snapshot) (p : Bool) (cur oth : Choice) (n via : ℕ) where
  pub select_first : cur.found ≡ false → push s oth n via ≡ try_select s p cur oth n via
  unfolding try_select
  select_first e = rw (try_select, e)

  pub select_new : cur.found ≡ true → better s p cur oth n ≡ true → extended s oth n via oth.has_prelude_segment ≡ try_select s p cur oth n via
  unfolding try_select
  select_new e f = rw (try_select, e, f)

  pub select_old : cur.found ≡ true → better s p cur oth n ≡ false → cur ≡ try_select s p cur oth n via
  unfolding try_select
  select_old e f = kept (extended s oth n via oth.has_prelude_segment) cur (push s oth n via) cur.found (better s p cur oth n) e f
