-- The walk to the first record at which a test holds; and the place of an entry that was just added.
use Prim.Native.Nat.{ℕ, zero, suc, ◌+◌, ◌-◌, ◌≤◌, ◌<◌}
use mathlib.Core.Path.{◌≡◌, refl, sym, ◌∙◌, ap, subst}
use mathlib.Core.List.{List}
use mathlib.Core.Bool.{Bool, true, false, ◌&&◌, not, and-false}
use native.Mathlib.Omega.{arith}
use lib.Dec.{eqb, ltb}
use lib.ListN.{length, get_or}
use borrow.Author.Tests.{eqb-true, ltb-true, ltb-false, lt-ltb, le-ltb}
use Rattle.snapshot.specs.Words.{kind_of, pay_of, arguments_of, arguments_at}
use Rattle.snapshot.specs.Sizes.{scope_size}
use Rattle.snapshot.specs.Records.{Scope, scope_at}
use Rattle.accept.proofs.Accepted.{by_test}
use Rattle.edit_rules.specs.Entries.{first_from, is_later, scopes_end, is_entry, entry_place}
use Rattle.edit_rules.proofs.scope_edits.Moved.{scope_same, arguments_are}

module _ (stop : ℕ → Bool) (W : List ℕ) where
  pub first_end : (n a : ℕ) → length W ≤ a → first_from stop n W a ≡ a
  unfolding first_from
  first_end zero a h = refl
  first_end (suc n) a h = rw (first_from, le-ltb _ _ h)

  pub first_here : (n a : ℕ) → stop a ≡ true → first_from stop n W a ≡ a
  unfolding first_from
  first_here zero a e = refl
  first_here (suc n) a e = rw (first_from, e, and-false (ltb a (length W)))

  pub first_on : (n a : ℕ) → a < length W → stop a ≡ false → first_from stop (suc n) W a ≡ first_from stop n W (a + 1 + arguments_at W a)
  unfolding first_from
  first_on n a h e = rw (first_from, lt-ltb _ _ h, e)

  pub first_next : (n a : ℕ) → a < length W → length W ≤ n + a → stop a ≡ false
      → (m : ℕ) × (length W ≤ m + (a + 1 + arguments_at W a)) × (first_from stop n W a ≡ first_from stop m W (a + 1 + arguments_at W a))
  first_next zero a h g e = absurd (omega arith)
  first_next (suc n) a h g e = (n, omega arith, first_on n a h e)

  first_after : (n a : ℕ) → a ≤ first_from stop n W a
  unfolding first_from
  first_after zero a = omega arith
  first_after (suc n) a =
      by_test (ltb a (length W) && not (stop a))
      (λ c. let e : first_from stop (suc n) W a ≡ first_from stop n W (a + 1 + arguments_at W a) = rw (first_from, c) in
      let h = first_after n (a + 1 + arguments_at W a) in
      subst (λ p. a ≤ p) (sym e) (omega arith))
      (λ c. let e : first_from stop (suc n) W a ≡ a = rw (first_from, c) in subst (λ p. a ≤ p) (sym e) (omega arith))

-- whether a record is the entry, in other words that are the same
entry_same : (t : Scope → Bool) (W X : List ℕ) (a : ℕ) → ((i : ℕ) → i ≤ arguments_at W a → get_or X (a + i) 0 ≡ get_or W (a + i) 0)
    → get_or X a 0 ≡ get_or W a 0
    → is_entry t W a ≡ false → is_entry t X a ≡ false
unfolding arguments_of
entry_same t W X a same head e =
    by_test (eqb (kind_of (get_or W a 0)) 9)
    (λ c.
    let k = eqb-true (kind_of (get_or W a 0)) 9 c in
    let sized : arguments_at W a ≡ scope_size - 1 = arguments_are W a 9 k in
    let x = scope_same W X a a (λ n. n) refl (subst (λ n. (i : ℕ) → i ≤ n → get_or X (a + i) 0 ≡ get_or W (a + i) 0) sized same) in
    ap (λ w. eqb (kind_of w) 9 && t (scope_at X a)) head ∙ ap (λ y. eqb (kind_of (get_or W a 0)) 9 && t y) x ∙ e)
    (λ c. ap (λ w. eqb (kind_of w) 9 && t (scope_at X a)) head ∙ rw c)

module _ (t : Scope → Bool) (W X : List ℕ) (p : ℕ) (agree : (i : ℕ) → i < p → get_or X i 0 ≡ get_or W i 0) (longer : length W < length X)
    (here : is_entry t X p ≡ true)
  where
    at_end : (m a : ℕ) → a ≡ p → first_from (is_entry t X) m X a ≡ p
    at_end m a e = ap (first_from (is_entry t X) m X) e ∙ first_here (is_entry t X) X m p here

    go_on_lem : (n m a : ℕ) → a < length W → is_later W a ≡ false → first_from (is_later W) (suc n) W a ≡ p → length X ≤ m + a
        → is_entry t W a ≡ false
        → ((k : ℕ) → first_from (is_later W) n W (a + 1 + arguments_at W a) ≡ p → length X ≤ k + (a + 1 + arguments_at W a)
        → first_from (is_entry t X) k X (a + 1 + arguments_at W a) ≡ p)
        → first_from (is_entry t X) m X a ≡ p
    go_on_lem n m a h d e g none rec =
        let f = sym (first_on (is_later W) W n a h d) ∙ e in
        let o = first_after (is_later W) W n (a + 1 + arguments_at W a) in
        let head : get_or X a 0 ≡ get_or W a 0 = agree a (omega (arith, f)) in
        let x = entry_same t W X a (λ i k. agree (a + i) (omega (arith, f))) head none in
        let q = first_next (is_entry t X) X m a (omega arith) g x in
        let v : arguments_at X a ≡ arguments_at W a = ap (λ w. arguments_of (kind_of w) (pay_of w)) head in
        q.2 ∙ ap (λ j. first_from (is_entry t X) q.0 X (a + 1 + j)) v ∙ rec q.0 f (subst (λ j. length X ≤ q.0 + (a + 1 + j)) v q.1)

    absent_here : (n a : ℕ) → a < length W → length W ≤ first_from (is_entry t W) n W a → is_entry t W a ≡ false
    absent_here n a h g =
        by_test (is_entry t W a) (λ c. absurd (omega (arith, first_here (is_entry t W) W n a c))) (λ c. c)

    -- an entry that stands nowhere in W stands in X first at p, where the scopes of W end
    pub place_back : (n m a : ℕ) → first_from (is_later W) n W a ≡ p → length W ≤ n + a → length X ≤ m + a
        → length W ≤ first_from (is_entry t W) n W a → first_from (is_entry t X) m X a ≡ p
    unfolding first_from
    place_back zero m a e l g absent = at_end m a e
    place_back (suc n) m a e l g absent =
        by_test (ltb a (length W))
        (λ c. by_test (is_later W a)
        (λ d. at_end m a (sym (first_here (is_later W) W (suc n) a d) ∙ e))
        (λ d.
        let h = ltb-true a (length W) c in
        let none = absent_here (suc n) a h absent in
        go_on_lem n m a h d e g none
        (λ k f r. place_back n k (a + 1 + arguments_at W a) f (omega arith) r
        (subst (λ z. length W ≤ z) (first_on (is_entry t W) W n a h none) absent))))
        (λ c. at_end m a (sym (first_end (is_later W) W (suc n) a (ltb-false a (length W) c)) ∙ e))

-- a loop that goes from record to record: the place that it looks for is that of the walk from where it stands

abbrev pub Walks : (ℕ → Bool) → List ℕ → ℕ → ℕ → Type 0
Walks stop W whole a = (f : ℕ) × (length W ≤ f + a) × (whole ≡ first_from stop f W a)

pub end_start : (W : List ℕ) → Walks (is_later W) W (scopes_end W) 0
unfolding scopes_end
end_start W = (length W, omega arith, refl)

pub entry_start : (t : Scope → Bool) (W : List ℕ) → Walks (is_entry t W) W (entry_place t W) 0
unfolding entry_place
entry_start t W = (length W, omega arith, refl)

module _ (stop : ℕ → Bool) (W : List ℕ) (whole a : ℕ) (w : Walks stop W whole a) where
  pub walk_stop : stop a ≡ true → a ≡ whole
  walk_stop e = sym (w.2 ∙ first_here stop W w.0 a e)

  pub walk_end_lem : length W ≤ a → a ≡ whole
  walk_end_lem h = sym (w.2 ∙ first_end stop W w.0 a h)

  pub walk_on : a < length W → stop a ≡ false → {n : ℕ} → n ≡ arguments_at W a → Walks stop W whole (a + 1 + n)
  walk_on h e q =
      let r = first_next stop W w.0 a h w.1 e in
      subst (λ n. Walks stop W whole (a + 1 + n)) (sym q) (r.0, r.1, w.2 ∙ r.2)
