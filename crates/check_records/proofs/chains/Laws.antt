-- Laws of the chains and of the keys.
use Prim.Native.Nat.{ℕ, zero, suc, ◌+◌, ◌-◌, ◌*◌, ◌%◌, ◌≤◌, ◌<◌}
use mathlib.Core.Path.{◌≡◌, refl, sym, ◌∙◌, ap}
use mathlib.Core.Logic.{◌≢◌}
use mathlib.Core.List.{List}
use mathlib.Core.Bool.{Bool, true, false, ◌||◌, not, or-false, or-true, or_assoc}
use native.Mathlib.Omega.{arith}
use native.Mathlib.Numerals.{add-one}
use native.Mathlib.Nat.{add-zero, zero-add}
use lib.Dec.{eqb, leb}
use lib.ListN.{length, get_or, set, length-set}
use lib.Seq.{get_or-set_same, get_or-set_other}
use borrow.Author.Count.{below_more}
use borrow.Author.Tests.{eqb-true, eqb-false, eq-eqb, ne_eqb, leb-true, leb-false}
use Rattle.snapshot.specs.Lists.{rows, any}
use Rattle.snapshot.specs.Limits.{module_limit}
use Rattle.snapshot.specs.Words.{pay_of, words_of}
use Rattle.snapshot.specs.Records.{name_at}
use Rattle.snapshot.proofs.Laws.{rows_next, rows_none, rows_ext}
use Rattle.check_records.specs.chains.Chains.{mixed, keys, name_key, slot_of, Marked, Last, ChainedBy, linked}

-- the mixing of a text, word by word
module _ (f : ℕ → ℕ) (whole a i n : ℕ) (e : whole ≡ mixed a (rows f i (n - i))) where
  pub mixed_go : {w a' : ℕ} → i < n → w ≡ f i → a' ≡ (a + w) * 1640531527 % 4294967296 → whole ≡ mixed a' (rows f (i + 1) (n - (i + 1)))
  unfolding mixed
  mixed_go h q r = rw (e, rows_next f i n h, mixed, ← q, ← r)

  pub mixed_end : n ≤ i → a ≡ whole
  unfolding mixed
  mixed_end h = rw (e, rows_none f i n h)

pub key_is : (W : List ℕ) (at : ℕ) {bytes n m : ℕ} → bytes ≡ pay_of (get_or W at 0) → n ≡ words_of bytes
    → m ≡ mixed bytes (rows (λ i. get_or W (at + 1 + i) 0) 0 n) → m % keys ≡ name_key (name_at W at)
key_is W at e f g = cc

last_kept : (g h : ℕ → ℕ) (b n : ℕ) {c d : ℕ} → Last g b n c → d ≡ c → ((i : ℕ) → i < n → h i ≡ g i) → Last h b n d
last_kept g h b n l e q =
    let w = l.within in
    record {
      within = omega arith;
      keyed = λ p. ap h (ap (λ x. x - 1) e) ∙ q _ (omega arith) ∙ l.keyed (omega arith);
      none = λ j p r s. l.none j (omega arith) r (sym (q j r) ∙ s);
    }

-- the same heads, links and keys
pub chained_kept : {count : ℕ} (A B : List ℕ) (heads links : ℕ) (g h : ℕ → ℕ) (n : ℕ) → ChainedBy count A heads links g n
    → ((b : ℕ) → b < count → get_or B (heads + b) 0 ≡ get_or A (heads + b) 0) → ((i : ℕ) → i < n → get_or B (links + i) 0 ≡ get_or A (links + i) 0)
    → ((i : ℕ) → i < n → h i ≡ g i) → ChainedBy count B heads links h n
chained_kept A B heads links g h n c p q r =
    record {
      first = λ b k. last_kept g h b n (c.first b k) (p b k) r;
      next = λ i k. rw (r i k) (last_kept g h (g i) i (c.next i k) (q i k) (λ j s. r j (omega arith)));
    }

-- what is read at a key and at a number
module _ {count : ℕ} (A : List ℕ) (heads links : ℕ) (key : ℕ → ℕ) (n : ℕ) (c : ChainedBy count A heads links key n) where
  pub first_of : {b k : ℕ} → b < count → k ≡ get_or A (heads + b) 0 → Last key b n k
  first_of {b} h e = rw e (c.first b h)

  pub next_of : {i k : ℕ} → i < n → k ≡ get_or A (links + i) 0 → Last key (key i) i k
  next_of {i} h e = rw e (c.next i h)

-- no number yet
pub chained_none : {count : ℕ} (A : List ℕ) (heads links : ℕ) (h : ℕ → ℕ) → ((b : ℕ) → b < count → get_or A (heads + b) 0 ≡ 0)
    → ChainedBy count A heads links h 0
chained_none A heads links h z =
    record {
      first = λ b k. rw (z b k) (record { within = omega arith; keyed = λ p. absurd (omega arith); none = λ j p q. absurd (omega arith) });
      next = λ i k. absurd (omega arith);
    }

module _ (A : List ℕ) (heads links b n : ℕ) where
  -- the other words stay
  pub linked_other : (i : ℕ) → i ≢ heads + b → i ≢ links + n → get_or (linked A heads links b n) i 0 ≡ get_or A i 0
  unfolding linked
  linked_other i p q = get_or-set_other (set A (links + n) (get_or A (heads + b) 0)) (heads + b) i (n + 1) 0 p
      ∙ get_or-set_other A (links + n) i (get_or A (heads + b) 0) 0 q

  linked_head : heads + b < length A → get_or (linked A heads links b n) (heads + b) 0 ≡ n + 1
  unfolding linked
  linked_head h = get_or-set_same (set A (links + n) (get_or A (heads + b) 0)) (heads + b) (n + 1) 0 (simp length-set (omega arith))

  linked_link : links + n < length A → links + n ≢ heads + b → get_or (linked A heads links b n) (links + n) 0 ≡ get_or A (heads + b) 0
  unfolding linked
  linked_link h p = get_or-set_other (set A (links + n) (get_or A (heads + b) 0)) (heads + b) (links + n) (n + 1) 0 p
      ∙ get_or-set_same A (links + n) (get_or A (heads + b) 0) 0 h

  -- one number more
  pub chained_linked : {count : ℕ} (key : ℕ → ℕ) → ChainedBy count A heads links key n → heads + count ≤ links → links + n < length A
      → b < count → key n ≡ b
      → ChainedBy count (linked A heads links b n) heads links key (n + 1)
  chained_linked {count} key c apart fits small e =
      record {
        first = λ x k. head x k;
        next =
            below_more (λ i. Last key (key i) i (get_or (linked A heads links b n) (links + i) 0)) n
            (λ i k. last_kept key key (key i) i (c.next i k) (linked_other (links + i) (omega arith) (omega arith)) (λ j s. refl))
            (rw e (last_kept key key b n (c.first b small) (linked_link fits (omega arith)) (λ j s. refl)));
      }
    where
      newest : Last key b (n + 1) (n + 1)
      newest = record {
        within = omega arith;
        keyed = λ p. ap key (let q : n + 1 - 1 ≡ n = omega arith in q)
            ∙ e;
        none = λ j p q. absurd (omega arith);
      }

      older : (x d : ℕ) → (x ≡ b → ⊥) → Last key x n d → Last key x (n + 1) d
      older x d p l =
          let w = l.within in
          record {
            within = omega arith;
            keyed = l.keyed;
            none = λ j q r. below_more (λ i. d ≤ i → key i ≡ x → ⊥) n (λ i s t. l.none i t s) (λ t s. p (sym s ∙ e)) j r q;
          }

      head_by : (x : ℕ) → x < count → (t : Bool) → eqb x b ≡ t → Last key x (n + 1) (get_or (linked A heads links b n) (heads + x) 0)
      head_by x k true q =
          let r : x ≡ b = eqb-true x b q in
          rw (r, linked_head (omega arith)) newest
      head_by x k false q =
          let r : (x ≡ b → ⊥) = eqb-false x b q in
          older x _ r (last_kept key key x n (c.first x k) (linked_other (heads + x) (λ s. r (omega arith)) (omega arith)) (λ j s. refl))

      head : (x : ℕ) → x < count → Last key x (n + 1) (get_or (linked A heads links b n) (heads + x) 0)
      head x k = head_by x k (eqb x b) refl

-- one row more
any_more : {X : Type 0} (p : X → Bool) (f : ℕ → X) (k n : ℕ) → any p (rows f k (suc n)) ≡ (any p (rows f k n) || p (f (k + n)))
unfolding any rows
any_more p f k zero = rw add-zero (or-false (p (f k)))
any_more p f k (suc n) =
    let e : k + suc n ≡ k + 1 + n = omega arith in
    rw e (ap (λ x. p (f k) || x) (any_more p f (k + 1) n) ∙ sym (or_assoc (p (f k)) (any p (rows f (k + 1) n)) (p (f (k + 1 + n)))))

any_last : {X : Type 0} (p : X → Bool) (f : ℕ → X) (n : ℕ) → 0 < n → any p (rows f 0 n) ≡ (any p (rows f 0 (n - 1)) || p (f (n - 1)))
any_last p f zero h = absurd (omega arith)
any_last p f (suc n) h =
    let e : n ≡ suc n - 1 = omega arith in
    any_more p f 0 n ∙ rw zero-add (ap (λ m. any p (rows f 0 m) || p (f m)) e)

-- marks

pub marked_none : (A : List ℕ) (marks : ℕ) (key : ℕ → ℕ) → ((m : ℕ) → m < module_limit → get_or A (marks + m) 0 ≡ 0) → Marked A marks key 0
unfolding any rows
marked_none A marks key z = record { same = λ m h. ap (λ x. not (eqb x 0)) (z m h) }

pub marked_kept : (A B : List ℕ) (marks : ℕ) (g h : ℕ → ℕ) (n : ℕ) → Marked A marks g n
    → ((m : ℕ) → m < module_limit → get_or B (marks + m) 0 ≡ get_or A (marks + m) 0)
    → ((i : ℕ) → i < n → h i ≡ g i) → Marked B marks h n
marked_kept A B marks g h n c p q =
    record { same = λ m k. ap (λ x. not (eqb x 0)) (p m k) ∙ c.same m k ∙ ap (any (eqb m)) (rows_ext g h n (λ i r. sym (q i r))) }

any_next : {X : Type 0} (p : X → Bool) (f : ℕ → X) (n : ℕ) → any p (rows f 0 (n + 1)) ≡ (any p (rows f 0 n) || p (f n))
any_next p f n = rw add-one (any_more p f 0 n ∙ rw zero-add)

-- one record more
pub marked_more : (A : List ℕ) (marks : ℕ) (key : ℕ → ℕ) (n s : ℕ) → Marked A marks key n → marks + s < length A → key n ≡ s
    → Marked (set A (marks + s) 1) marks key (n + 1)
marked_more A marks key n s c fits e = record { same = λ m k. by m k (eqb m s) refl }
  where
    by : (m : ℕ) → m < module_limit → (t : Bool) → eqb m s ≡ t → not (eqb (get_or (set A (marks + s) 1) (marks + m) 0) 0)
        ≡ any (eqb m) (rows key 0 (n + 1))
    by m k true q =
        let r : m ≡ s = eqb-true m s q in
        ap (λ x. not (eqb (get_or (set A (marks + s) 1) (marks + x) 0) 0)) r ∙ ap (λ x. not (eqb x 0)) (get_or-set_same A (marks + s) 1 0 fits)
        ∙ sym (any_next (eqb m) key n ∙ ap (λ x. any (eqb m) (rows key 0 n) || x) (ap (eqb m) e ∙ q) ∙ or-true (any (eqb m) (rows key 0 n)))
    by m k false q =
        let r : (m ≡ s → ⊥) = eqb-false m s q in
        ap (λ x. not (eqb x 0)) (get_or-set_other A (marks + s) (marks + m) 1 0 (λ x. r (omega arith))) ∙ c.same m k
        ∙ sym (any_next (eqb m) key n ∙ ap (λ x. any (eqb m) (rows key 0 n) || x) (ap (eqb m) e ∙ q) ∙ or-false (any (eqb m) (rows key 0 n)))

-- the module of a definition, by its kind
module _ (W : List ℕ) (a : ℕ) {k : ℕ} (e : k ≡ pay_of (get_or W a 0)) where
  pub slot_none : (k ≡ 1 → ⊥) → module_limit ≡ slot_of W a
  unfolding slot_of
  slot_none h = rw (slot_of, ← e, ne_eqb _ _ h)

  pub slot_module : {f : ℕ} → k ≡ 1 → f ≡ get_or W (a + 1) 0 → f ≡ slot_of W a
  unfolding slot_of
  slot_module h g = rw (slot_of, ← e, eq-eqb _ _ h) g

-- no row from c on passes
any_gap : {X : Type 0} (p : X → Bool) (f : ℕ → X) (c n : ℕ) → c ≤ n → ((j : ℕ) → c ≤ j → j < n → p (f j) ≡ false)
    → any p (rows f 0 n) ≡ any p (rows f 0 c)
any_gap p f c zero h g = let e : c ≡ 0 = omega arith in rw e
any_gap p f c (suc n) h g = by (leb c n) refl (λ r. any_gap p f c n r (λ j s t. g j s (omega arith)))
  where
    by : (t : Bool) → leb c n ≡ t → (c ≤ n → any p (rows f 0 n) ≡ any p (rows f 0 c)) → any p (rows f 0 (suc n)) ≡ any p (rows f 0 c)
    by true q rest =
        let r : c ≤ n = leb-true c n q in
        any_more p f 0 n ∙ ap (λ x. any p (rows f 0 n) || x) (rw zero-add (g n r (omega arith))) ∙ or-false (any p (rows f 0 n)) ∙ rest r
    by false q rest =
        let r : n < c = leb-false c n q in
        let e : c ≡ suc n = omega arith in
        rw e

-- a walk along the chain of a key comes to a number k, 0 at the end: what is left decides as all of them do
pub record Walking {X : Type 0} (p : X → Bool) (f : ℕ → X) (key : ℕ → ℕ) (b n k : ℕ) : Type 0 where
  pub within : k ≤ n
  pub keyed : 0 < k → key (k - 1) ≡ b
  pub same : any p (rows f 0 n) ≡ any p (rows f 0 k)

-- p passes only for records of the key
module _ {X : Type 0} (p : X → Bool) (f : ℕ → X) (key : ℕ → ℕ) (b n : ℕ) (only : (j : ℕ) → p (f j) ≡ true → key j ≡ b) where
  unlike : (j : ℕ) → (key j ≡ b → ⊥) → p (f j) ≡ false
  unlike j h = by (p (f j)) refl
    where
      by : (t : Bool) → p (f j) ≡ t → p (f j) ≡ false
      by true e = absurd (h (only j e))
      by false e = e

  pub walk_start : {k : ℕ} → Last key b n k → Walking p f key b n k
  walk_start {k} l = record { within = l.within; keyed = l.keyed; same = any_gap p f k n l.within (λ j s t. unlike j (l.none j s t)) }

  module _ (k : ℕ) (w : Walking p f key b n k) (h : 0 < k) where
    pub walk_hit : p (f (k - 1)) ≡ true → true ≡ any p (rows f 0 n)
    walk_hit e = sym (w.same ∙ any_last p f k h ∙ ap (λ x. any p (rows f 0 (k - 1)) || x) e ∙ or-true (any p (rows f 0 (k - 1))))

    pub walk_miss : {d : ℕ} → p (f (k - 1)) ≡ false → Last key (key (k - 1)) (k - 1) d → Walking p f key b n d
    walk_miss {d} e l =
        let u = w.within in
        let v = l.within in
        record {
          within = omega arith;
          keyed = λ q. l.keyed q ∙ w.keyed h;
          same = w.same ∙ any_last p f k h ∙ ap (λ x. any p (rows f 0 (k - 1)) || x) e ∙ or-false (any p (rows f 0 (k - 1)))
              ∙ any_gap p f d (k - 1) v (λ j s t. unlike j (λ q. l.none j s t (q ∙ sym (w.keyed h))));
        }

  pub walk_end_lem : (k : ℕ) → Walking p f key b n k → k ≡ 0 → false ≡ any p (rows f 0 n)
  unfolding any rows
  walk_end_lem k w e = sym (w.same ∙ ap (λ x. any p (rows f 0 x)) e)
