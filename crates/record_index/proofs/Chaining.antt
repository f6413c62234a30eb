-- The laws of the chains.
use Prim.Native.Nat.{ℕ, ◌+◌, ◌-◌, ◌*◌, ◌/◌, ◌%◌, ◌≤◌, ◌<◌}
use mathlib.Core.Path.{◌≡◌, refl, sym, ap, subst, ◌∙◌}
use mathlib.Core.List.{List, ◌++◌}
use native.Mathlib.Decide.{dec_le}
use native.Mathlib.Omega.{arith}
use borrow.Rule.Slice.PartMut.{put_mid}
use lib.ListN.{length, get_or, take, drop, replicate, length-replicate, get_or-append, get_or-replicate}
use lib.Seq.{get_or-append-add, get_or-take, get_or-drop, length-take-le}
use Rattle.std.proofs.lemmas.Slice.{take-put_mid_below, drop-put_mid}
use Rattle.snapshot.specs.Layouts.{row_words}
use Rattle.record_index.specs.Halves.{half_of, half_at}
use Rattle.record_index.specs.Index.{First, Chained}
use Rattle.record_index.specs.Post.{Put, Beside, Cleared, Linking, Threaded}
use Rattle.record_index.proofs.Halving.{by_same, half_same, first_half, second_half}

module _ (f : ℕ → ℕ) (n : ℕ) where
  module _ {m k : ℕ} where
    -- the record k has another key
    first_more : {v : ℕ} → First f n m (k + 1) v → (f k ≡ m → ⊥) → First f n m k v
    first_more {v} x o =
        record {
          from = omega (arith, x.from);
          most = x.most;
          its = x.its;
          least = λ i h g. by_same i k (λ e q. o (ap f (sym e) ∙ q)) (λ e. x.least i (omega arith) g);
        }

    -- it has this key
    first_here : k < n → f k ≡ m → First f n m k k
    first_here h e = record { from = omega arith; most = omega arith; its = λ _. e; least = λ i p g. absurd (omega arith) }

  first_end : (m : ℕ) → First f n m n n
  first_end m = record { from = omega arith; most = omega arith; its = λ h. absurd (omega arith); least = λ i p g. absurd (omega arith) }

  -- no record has it
  pub first_none : (m : ℕ) → ((i : ℕ) → i < n → (f i ≡ m → ⊥)) → First f n m 0 n
  first_none m none = record { from = omega arith; most = omega arith; its = λ h. absurd (omega arith); least = λ i p g. none i g }

-- the next record with the key of the record j
pub first_next : (f : ℕ → ℕ) (n keys heads links : ℕ) (A : List ℕ) (m j : ℕ) → Chained f n keys heads links 0 A → j < n → f j ≡ m
    → {w : ℕ} → w ≡ half_at A (links + j) → First f n m (j + 1) w
first_next f n keys heads links A m j x h o e =
    subst (First f n m (j + 1)) (sym e) (subst (λ z. First f n z (j + 1) (half_at A (links + j))) o (x.links j (omega arith) h))

-- heads are cleared one by one
pub cleared_start : (A : List ℕ) (heads end : ℕ) → Cleared A heads 0 end A
cleared_start A heads end =
    record { none = λ m h. absurd (omega arith); beside = record { others = λ j p q. refl; below = refl } }

pub cleared_next : (A₀ A B : List ℕ) (heads m end : ℕ) → Put A (heads + m) end B → Cleared A₀ heads m end A → Cleared A₀ heads (m + 1) end B
cleared_next A₀ A B heads m end p v =
    record {
      none = λ i h.
          by_same i m (λ e. ap (λ z. half_at B (heads + z)) e ∙ p.here) (λ n. p.others (heads + i) (λ e. n (omega arith)) ∙ v.none i (omega arith));
      beside = record {
        others = λ j q r. p.others j (λ e. q (omega arith) (omega arith)) ∙ v.beside.others j (λ s t. q s (omega arith)) (λ s t. omega arith);
        below = p.below ∙ v.beside.below;
      };
    }

-- and two a word
module _ (A ys : List ℕ) (heads keys end k j : ℕ) (even : heads % 2 ≡ 0) (pairs : keys % 2 ≡ 0) (p : k ≡ keys / 2) (q : j ≡ keys / 2)
    (e : ys ≡ replicate j (end * 65537)) (small : end < 65536) (from : 2 * row_words ≤ heads) (fits : heads + keys ≤ 2 * length A) where
  abbrev at : ℕ
  at = heads / 2

  abbrev B : List ℕ
  B = put_mid at k A ys

  both : (h : ℕ) → half_of h (end * 65537) ≡ end
  both h = by_same h 0 (λ z. sym (first_half (end * 65537) z) ∙ omega arith) (λ n. sym (second_half (end * 65537) n) ∙ omega arith)

  cleared_word : (i : ℕ) → i < keys / 2 → get_or B (at + i) 0 ≡ end * 65537
  cleared_word i h =
      let R = drop k (drop at A) in
      let l : length (take at A) ≡ at = length-take-le at A (omega arith) in
      ap (λ z. get_or (take at A ++ (ys ++ R)) (z + i) 0) (sym l) ∙ get_or-append-add (take at A) (ys ++ R) i 0
      ∙ ap (λ z. get_or (z ++ R) i 0) (e ∙ ap (λ z. replicate z (end * 65537)) q)
      ∙ get_or-append (replicate (keys / 2) (end * 65537)) R 0 i (simp length-replicate h) ∙ get_or-replicate (keys / 2) i (end * 65537) 0 h

  before : (i : ℕ) → i < at → get_or B i 0 ≡ get_or A i 0
  before i h = sym (get_or-take at B i 0 h) ∙ ap (λ z. get_or z i 0) (take-put_mid_below at k A ys at (omega arith) (omega arith)) ∙ get_or-take at A i 0 h

  after : (i : ℕ) → at + k ≤ i → get_or B i 0 ≡ get_or A i 0
  after i h =
      let r : at + k + (i - (at + k)) ≡ i = omega arith in
      ap (λ z. get_or B z 0) (sym r) ∙ sym (get_or-drop (at + k) B (i - (at + k)) 0)
      ∙ ap (λ z. get_or z (i - (at + k)) 0)
      (drop-put_mid at k A ys (at + k) (omega arith) (omega arith) (ap length e ∙ length-replicate j (end * 65537) ∙ q ∙ sym p))
      ∙ get_or-drop (at + k) A (i - (at + k)) 0 ∙ ap (λ z. get_or A z 0) r

  pub cleared_all : Cleared A heads keys end B
  cleared_all =
      record {
        none = λ m h.
            let r : (heads + m) / 2 ≡ at + m / 2 = omega (arith, even) in
            ap (λ z. half_of ((heads + m) % 2) (get_or B z 0)) r ∙ ap (half_of ((heads + m) % 2)) (cleared_word (m / 2) (omega (arith, pairs, h)))
            ∙ both ((heads + m) % 2);
        beside = record {
          others = λ i s t. half_same A B i (elim (dec_le heads i) [
            | yes u ↦ let x : i < heads + keys → ⊥ = s u in after (i / 2) (omega (arith, even, pairs, p, x))
            | no u ↦ before (i / 2) (omega (arith, even, u))
          ]);
          below = take-put_mid_below at k A ys row_words (omega arith) (omega arith);
        };
      }

-- no record is chained yet
pub threaded_start : (f : ℕ → ℕ) (A₀ A : List ℕ) (n keys heads links : ℕ) → heads + keys ≤ links → Cleared A₀ heads keys n A
    → Threaded A₀ f n keys heads links n A
threaded_start f A₀ A n keys heads links apart v =
    record {
      chained = record {
        heads = λ m h. subst (First f n m n) (sym (v.none m h)) (first_end f n m);
        links = λ j h g. absurd (omega arith);
      };
      beside = record { others = λ j p q. v.beside.others j p (λ s t. omega arith); below = v.beside.below };
    }

-- one record more is chained: its link is written, then the head of its key
module _ (A B C : List ℕ) (heads keys links key k : ℕ) (apart : heads + keys ≤ links) (known : key < keys)
    (a : Put A (links + k) (half_at A (heads + key)) B) (b : Put B (heads + key) k C) where
  head_other : (m : ℕ) → m < keys → (m ≡ key → ⊥) → half_at C (heads + m) ≡ half_at A (heads + m)
  head_other m h n = b.others (heads + m) (λ e. n (omega arith)) ∙ a.others (heads + m) (λ e. omega arith)

  link_here : half_at C (links + k) ≡ half_at A (heads + key)
  link_here = b.others (links + k) (λ e. omega arith) ∙ a.here

  link_other : (j : ℕ) → (j ≡ k → ⊥) → half_at C (links + j) ≡ half_at A (links + j)
  link_other j n = b.others (links + j) (λ e. omega arith) ∙ a.others (links + j) (λ e. n (omega arith))

  module _ (f : ℕ → ℕ) (n : ℕ) (e : key ≡ f k) (h : k < n) (x : Chained f n keys heads links (k + 1) A) where
    chained_next : Chained f n keys heads links k C
    chained_next =
        record {
          heads = λ m q.
              by_same m key
              (λ t. subst (First f n m k) (sym (ap (λ z. half_at C (heads + z)) t ∙ b.here)) (first_here f n h (sym (t ∙ e))))
              (λ t. subst (First f n m k) (sym (head_other m q t)) (first_more f n (x.heads m q) (λ p. t (sym p ∙ sym e))));
          links = λ j q g.
              by_same j k
              (λ t.
              subst (λ z. First f n (f z) (z + 1) (half_at C (links + z))) (sym t)
              (subst (First f n (f k) (k + 1)) (sym link_here)
              (subst (λ z. First f n z (k + 1) (half_at A (heads + key))) e (x.heads key known))))
              (λ t. subst (First f n (f j) (j + 1)) (sym (link_other j t)) (x.links j (omega arith) g));
        }

  beside_next : (n : ℕ) → k < n → Beside A heads keys links n C
  beside_next n h =
      record {
        others = λ j p q.
            b.others j (λ e. p (omega arith) (omega arith)) ∙ a.others j (λ e. q (omega arith) (omega arith));
        below = b.below ∙ a.below;
      }

  pub linked : Linking A heads keys links key k C
  linked = record { chained = λ f n e h x. chained_next f n e h x; beside = λ n h. beside_next n h }

-- one more of those that are chained
pub threaded_next : (f : ℕ → ℕ) (A₀ A B : List ℕ) (n keys heads links key k j : ℕ) → j ≡ k + 1 → k < n → key ≡ f k
    → Linking A heads keys links key k B → Threaded A₀ f n keys heads links j A → Threaded A₀ f n keys heads links k B
threaded_next f A₀ A B n keys heads links key k j e h q v t =
    record {
      chained = v.chained f n q h (subst (λ z. Chained f n keys heads links z A) e t.chained);
      beside = record {
        others = λ i p r. (v.beside n h).others i p r ∙ t.beside.others i p r;
        below = (v.beside n h).below ∙ t.beside.below;
      };
    }

-- chains stay where their halves do
pub chained_stays : (f : ℕ → ℕ) (n keys heads links : ℕ) (A B : List ℕ)
    → ((i : ℕ) → heads ≤ i → i < heads + keys → half_at B i ≡ half_at A i)
    → ((i : ℕ) → links ≤ i → i < links + n → half_at B i ≡ half_at A i) → Chained f n keys heads links 0 A → Chained f n keys heads links 0 B
chained_stays f n keys heads links A B hs ls x =
    record {
      heads = λ m h. subst (First f n m 0) (sym (hs (heads + m) (omega arith) (omega arith))) (x.heads m h);
      links = λ j g h. subst (First f n (f j) (j + 1)) (sym (ls (links + j) (omega arith) (omega arith))) (x.links j g h);
    }
