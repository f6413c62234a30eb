-- The laws of the ranges.
use Prim.Native.Nat.{ℕ, ◌+◌, ◌*◌, ◌/◌, ◌≤◌, ◌<◌}
use mathlib.Core.Path.{◌≡◌, sym, ap, ◌∙◌}
use mathlib.Core.List.{List, ◌++◌}
use native.Mathlib.Omega.{arith}
use borrow.Rule.Slice.PartMut.{put_mid}
use Rattle.std.proofs.lemmas.Slice.{take-put_mid_below}
use lib.ListN.{length, get_or, set, take, drop, replicate, length-set, length-replicate, get_or-append, get_or-replicate}
use lib.Seq.{get_or-set_same, get_or-set_other, take-set-le, get_or-append-add, length-take-le, get_or-take, take-take}
use Rattle.snapshot.specs.Limits.{word_limit, crate_limit}
use Rattle.snapshot.specs.Layouts.{word_count, row_words, head_table, link_table, dependency_table, extern_table, table_words}
use Rattle.snapshot.specs.declared.layout.Layout.{Layout}
use Rattle.record_index.specs.Halves.{half_at}
use Rattle.record_index.specs.Index.{keys_of, heads_of, links_of, count_of, key_of, Chains, Sized, Index}
use Rattle.record_index.specs.declared.chains.Chain.{Chain}
use Rattle.record_index.specs.declared.chains.Chain.TheVariants.{Modules, Items, Imports}
use Rattle.record_index.specs.Ranges.{low_at, high_at, Ranged, dependency_owner_at, extern_owner_at}
use Rattle.record_index.specs.Post.{Emptied, Ranging, Noted, Made, Filled, Built}
use Rattle.record_index.proofs.Halving.{by_same, half_same}
use Rattle.record_index.proofs.Chaining.{chained_stays}

-- clearing
pub emptied_all : (A ys : List ℕ) (at n k j : ℕ) → k ≡ n → j ≡ n → ys ≡ replicate j 0 → n ≤ crate_limit → at + 2 * crate_limit ≤ length A
    → Emptied A n at (put_mid (at + crate_limit) k A ys)
emptied_all A ys at n k j q p e few h =
    let ends = at + crate_limit in
    let R = drop k (drop ends A) in
    let l : length (take ends A) ≡ ends = length-take-le ends A (omega arith) in
    record {
      none = λ m o.
          ap (λ j. get_or (take ends A ++ (ys ++ R)) (j + m) 0) (sym l) ∙ get_or-append-add (take ends A) (ys ++ R) m 0
          ∙ ap (λ z. get_or (z ++ R) m 0) (e ∙ ap (λ i. replicate i 0) p) ∙ get_or-append (replicate n 0) R 0 m (simp length-replicate o)
          ∙ get_or-replicate n m 0 0 o;
      below = take-put_mid_below ends k A ys at (omega arith) (omega arith);
    }

pub ranging_start : (owner : ℕ → ℕ) (A₀ A : List ℕ) (crates at : ℕ) → Emptied A₀ crates at A → Ranging owner 0 crates at A
ranging_start owner A₀ A crates at v =
    record {
      ranged = λ c h i o e. absurd (omega arith);
      some = λ c h o. let a = v.none c h in absurd (omega arith);
      upto = λ c h. let a = v.none c h in omega arith;
    }

-- one record more
module _ (A : List ℕ) (at c k : ℕ) (known : c < crate_limit) (room : at + 2 * crate_limit ≤ length A) where
  abbrev end : ℕ
  end = at + crate_limit + c

  -- a crate that has some
  abbrev B : List ℕ
  B = set A end (k + 1)

  -- a crate that has none yet
  abbrev C : List ℕ
  C = set (set A (at + c) k) end (k + 1)

  B_high : high_at B at c ≡ k + 1
  B_high = get_or-set_same A end (k + 1) 0 (omega arith)

  B_low : (d : ℕ) → d < crate_limit → low_at B at d ≡ low_at A at d
  B_low d h = get_or-set_other A end (at + d) (k + 1) 0 (λ e. omega arith)

  B_other : (d : ℕ) → (d ≡ c → ⊥) → high_at B at d ≡ high_at A at d
  B_other d n = get_or-set_other A end (at + crate_limit + d) (k + 1) 0 (λ e. n (omega arith))

  C_high : high_at C at c ≡ k + 1
  C_high = get_or-set_same (set A (at + c) k) end (k + 1) 0 (omega (arith, length-set A (at + c) k))

  C_low : low_at C at c ≡ k
  C_low = get_or-set_other (set A (at + c) k) end (at + c) (k + 1) 0 (λ e. omega arith) ∙ get_or-set_same A (at + c) k 0 (omega arith)

  C_low_other : (d : ℕ) → d < crate_limit → (d ≡ c → ⊥) → low_at C at d ≡ low_at A at d
  C_low_other d h n =
      get_or-set_other (set A (at + c) k) end (at + d) (k + 1) 0 (λ e. omega arith) ∙ get_or-set_other A (at + c) (at + d) k 0 (λ e. n (omega arith))

  C_other : (d : ℕ) → (d ≡ c → ⊥) → high_at C at d ≡ high_at A at d
  C_other d n =
      get_or-set_other (set A (at + c) k) end (at + crate_limit + d) (k + 1) 0 (λ e. n (omega arith))
      ∙ get_or-set_other A (at + c) (at + crate_limit + d) k 0 (λ e. omega arith)

  module _ (owner : ℕ → ℕ) (crates : ℕ) (few : crates ≤ crate_limit) (its : owner k ≡ c) (v : Ranging owner k crates at A) where
    last_or : {P : Type 0} (i : ℕ) → i < k + 1 → (i < k → P) → (i ≡ k → P) → P
    last_or i h f g = by_same i k g (λ n. f (omega arith))

    ranging_some : 0 < high_at A at c → Ranging owner (k + 1) crates at B
    ranging_some some =
        record {
          ranged = λ d h i o e.
              by_same d c
              (λ q.
              let s = v.some c (omega (arith, h, q)) some in
              let u = v.upto c (omega (arith, h, q)) in
              let hi : high_at B at d ≡ k + 1 = ap (high_at B at) q ∙ B_high in
              let lo : low_at B at d ≡ low_at A at c = B_low d (omega arith) ∙ ap (low_at A at) q in
              last_or i o
              (λ z. let w = v.ranged c (omega (arith, h, q)) i z (e ∙ q) in (omega (arith, w.0, lo), omega (arith, hi, o)))
              (λ z. (omega (arith, z, lo, s, u), omega (arith, hi, o))))
              (λ n.
              last_or i o
              (λ z. let w = v.ranged d h i z e in (omega (arith, w.0, B_low d (omega arith)), omega (arith, w.1, B_other d n)))
              (λ z. absurd (n (sym e ∙ ap owner z ∙ its))));
          some = λ d h o.
              by_same d c
              (λ q.
              let s = v.some c (omega (arith, h, q)) some in
              let u = v.upto c (omega (arith, h, q)) in
              let hi : high_at B at d ≡ k + 1 = ap (high_at B at) q ∙ B_high in
              let lo : low_at B at d ≡ low_at A at c = B_low d (omega arith) ∙ ap (low_at A at) q in
              omega (arith, hi, lo, s, u))
              (λ n. let s = v.some d h (omega (arith, o, B_other d n)) in omega (arith, s, B_low d (omega arith), B_other d n));
          upto = λ d h.
              by_same d c
              (λ q. let hi : high_at B at d ≡ k + 1 = ap (high_at B at) q ∙ B_high in omega (arith, hi))
              (λ n. let u = v.upto d h in omega (arith, u, B_other d n));
        }

    ranging_none : high_at A at c ≡ 0 → Ranging owner (k + 1) crates at C
    ranging_none none =
        record {
          ranged = λ d h i o e.
              by_same d c
              (λ q.
              let hi : high_at C at d ≡ k + 1 = ap (high_at C at) q ∙ C_high in
              let lo : low_at C at d ≡ k = ap (low_at C at) q ∙ C_low in
              last_or i o
              (λ z. let w = v.ranged c (omega (arith, h, q)) i z (e ∙ q) in absurd (omega (arith, w.1, none)))
              (λ z. (omega (arith, z, lo), omega (arith, hi, o))))
              (λ n.
              last_or i o
              (λ z. let w = v.ranged d h i z e in (omega (arith, w.0, C_low_other d (omega arith) n), omega (arith, w.1, C_other d n)))
              (λ z. absurd (n (sym e ∙ ap owner z ∙ its))));
          some = λ d h o.
              by_same d c
              (λ q.
              let hi : high_at C at d ≡ k + 1 = ap (high_at C at) q ∙ C_high in
              let lo : low_at C at d ≡ k = ap (low_at C at) q ∙ C_low in
              omega (arith, hi, lo))
              (λ n. let s = v.some d h (omega (arith, o, C_other d n)) in omega (arith, s, C_low_other d (omega arith) n, C_other d n));
          upto = λ d h.
              by_same d c
              (λ q. let hi : high_at C at d ≡ k + 1 = ap (high_at C at) q ∙ C_high in omega (arith, hi))
              (λ n. let u = v.upto d h in omega (arith, u, C_other d n));
        }

  pub noted_some : {w : ℕ} → w ≡ high_at A at c → (w ≡ 0 → ⊥) → Noted A at c k B
  noted_some e n =
      record {
        ranging = λ owner crates few its v. ranging_some owner crates few its v (omega (arith, e, n));
        below = take-set-le at A end (k + 1) (omega arith);
      }

  pub noted_none : {w : ℕ} → w ≡ high_at A at c → w ≡ 0 → Noted A at c k C
  noted_none e z =
      record {
        ranging = λ owner crates few its v. ranging_none owner crates few its v (omega (arith, e, z));
        below = take-set-le at (set A (at + c) k) end (k + 1) (omega arith) ∙ take-set-le at A (at + c) k (omega arith);
      }

-- ranges stay where the words of their table do
pub ranged_stays : (owner : ℕ → ℕ) (n crates at : ℕ) (A B : List ℕ) → crates ≤ crate_limit
    → ((i : ℕ) → at ≤ i → i < at + 2 * crate_limit → get_or B i 0 ≡ get_or A i 0) → Ranged owner n crates at A → Ranged owner n crates at B
ranged_stays owner n crates at A B few same r c h i o e =
    let w = r c h i o e in (
      omega (arith, w.0, same (at + c) (omega arith) (omega arith)),
      omega (arith, w.1, same (at + crate_limit + c) (omega arith) (omega arith)),
    )

-- words below a place
same_below : (at : ℕ) (A B : List ℕ) → take at B ≡ take at A → (i : ℕ) → i < at → get_or B i 0 ≡ get_or A i 0
same_below at A B e i h = sym (get_or-take at B i 0 h) ∙ ap (λ (x : List ℕ). get_or x i 0) e ∙ get_or-take at A i 0 h

-- fewer of them
below_less : (at to : ℕ) (A B : List ℕ) → at ≤ to → take to B ≡ take to A → take at B ≡ take at A
below_less at to A B h e = sym (take-take at to B h) ∙ ap (take at) e ∙ take-take at to A h

-- the halves of words up to a place
halves_below : (at : ℕ) (A B : List ℕ) → take at B ≡ take at A → (i : ℕ) → i < 2 * at → half_at B i ≡ half_at A i
halves_below at A B e i h = half_same A B i (same_below at A B e (i / 2) (omega arith))

-- a chain stands in the halves of the index before the ranges, each apart from the others

chain_in : (l : Layout) → word_count l ≤ word_limit → (c : Chain)
    → (2 * head_table ≤ heads_of c) × (heads_of c + keys_of c ≤ 2 * link_table) × (2 * link_table ≤ links_of l c)
    × (links_of l c + count_of l c ≤ 2 * dependency_table)
chain_in l h Modules = (omega arith, omega arith, omega arith, omega arith)
chain_in l h Items = (omega arith, omega arith, omega arith, omega arith)
chain_in l h Imports = (omega arith, omega arith, omega arith, omega arith)

-- the keys of accepted records are keys of their chain
pub keys_known : (W : List ℕ) (l : Layout) → Sized W l → (c : Chain) (k : ℕ) → k < count_of l c → key_of W l c k < keys_of c
keys_known W l z Modules k h = omega (arith, z.owners k h, z.few)
keys_known W l z Items k h = omega arith
keys_known W l z Imports k h = omega arith

-- all chains and the ranges, one after the other
module _ (W A₀ : List ℕ) (l : Layout) (z : Sized W l) {A B C D E : List ℕ} (a : Made W A₀ l Modules A) (b : Made W A l Items B)
    (c : Made W B l Imports C)
    (d : Filled C (dependency_owner_at W l) l.dependencies l.crates dependency_table D)
    (e : Filled D (extern_owner_at W l) l.externs l.crates extern_table E)
  where
    low : take dependency_table E ≡ take dependency_table C
    low = below_less dependency_table extern_table D E (omega arith) e.below ∙ d.below

    late : (i : ℕ) → i < 2 * dependency_table → half_at E i ≡ half_at C i
    late i h = halves_below dependency_table C E low i h

    built_chains : (k : Chain) → Chains W l E k
    built_chains Modules =
        chained_stays (key_of W l Modules) _ _ _ _ A E
        (λ i p q. late i (omega arith) ∙ c.beside.others i (λ s t. omega arith) (λ s t. omega arith)
        ∙ b.beside.others i (λ s t. omega arith) (λ s t. omega arith))
        (λ i p q. late i (omega (arith, z.short)) ∙ c.beside.others i (λ s t. omega arith) (λ s t. omega arith)
        ∙ b.beside.others i (λ s t. omega arith) (λ s t. omega arith)) a.chained
    built_chains Items =
        chained_stays (key_of W l Items) _ _ _ _ B E
        (λ i p q. late i (omega arith) ∙ c.beside.others i (λ s t. omega arith) (λ s t. omega arith))
        (λ i p q. late i (omega (arith, z.short)) ∙ c.beside.others i (λ s t. omega arith) (λ s t. omega arith)) b.chained
    built_chains Imports =
        chained_stays (key_of W l Imports) _ _ _ _ C E (λ i p q. late i (omega arith)) (λ i p q. late i (omega (arith, z.short))) c.chained

    pub built_all : Built W A₀ l E
    built_all =
        record {
          index =
              record {
                chains = built_chains;
                keys = keys_known W l z;
                dependencies =
                    ranged_stays (dependency_owner_at W l) l.dependencies l.crates dependency_table D E z.crates
                    (λ i p q. same_below extern_table D E e.below i (omega arith)) d.ranged;
                externs = e.ranged;
              };
          below = below_less row_words dependency_table C E (omega arith) low ∙ c.beside.below ∙ b.beside.below ∙ a.beside.below;
        }

-- the index stays where its words do
pub index_stays : (W A B : List ℕ) (l : Layout) → word_count l ≤ word_limit → l.crates ≤ crate_limit
    → ((i : ℕ) → row_words ≤ i → i < table_words → get_or B i 0 ≡ get_or A i 0) → Index W l A → Index W l B
index_stays W A B l short crates same x =
    record {
      chains = λ c.
          let p = chain_in l short c in
          chained_stays (key_of W l c) _ _ _ _ A B (λ i u v. half_same A B i (same (i / 2) (omega (arith, p.0)) (omega (arith, p.1, p.2, p.3))))
          (λ i u v. half_same A B i (same (i / 2) (omega (arith, p.2)) (omega (arith, p.3)))) (x.chains c);
      keys = x.keys;
      dependencies =
          ranged_stays (dependency_owner_at W l) l.dependencies l.crates dependency_table A B crates (λ i p q. same i (omega arith) (omega arith))
          x.dependencies;
      externs = ranged_stays (extern_owner_at W l) l.externs l.crates extern_table A B crates (λ i p q. same i (omega arith) (omega arith)) x.externs;
    }
