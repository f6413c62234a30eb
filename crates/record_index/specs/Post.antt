-- What the functions that make the index ensure.
use Rattle.std.specs.Prelude.{ℕ, ◌+◌, ◌*◌, ◌^◌, ◌≤◌, ◌<◌, ◌≡◌, List, take}
use Rattle.snapshot.specs.Limits.{crate_limit}
use Rattle.snapshot.specs.Layouts.{row_words}
use Rattle.snapshot.specs.declared.layout.Layout.{Layout}
use Rattle.record_index.specs.Halves.{half_at}
use Rattle.record_index.specs.Index.{keys_of, heads_of, links_of, count_of, key_of, Chained, Index}
use Rattle.record_index.specs.declared.chains.Chain.{Chain}
use Rattle.record_index.specs.Ranges.{low_at, high_at, Ranged}

-- the half i is written, the others and the words below the index stay
pub record Put (A₀ : List ℕ) (i v : ℕ) (A : List ℕ) : Type 0 where
  pub here : half_at A i ≡ v
  pub others : (j : ℕ) → (j ≡ i → ⊥) → half_at A j ≡ half_at A₀ j
  pub below : take row_words A ≡ take row_words A₀

-- room for a chain of so many records, in the halves of so many words: heads, and past them links
pub record Room (heads keys links count words : ℕ) : Type 0 where
  pub from : 2 * row_words ≤ heads
  pub apart : heads + keys ≤ links
  pub fits : links + count ≤ 2 * words
  pub few : count < 65536
  pub small : links + count < 2 ^ 32

-- the halves that are not a chain's, and the words below the index, stay
pub record Beside (A₀ : List ℕ) (heads keys links count : ℕ) (A : List ℕ) : Type 0 where
  pub others : (j : ℕ) → (heads ≤ j → j < heads + keys → ⊥) → (links ≤ j → j < links + count → ⊥) → half_at A j ≡ half_at A₀ j
  pub below : take row_words A ≡ take row_words A₀

-- each key has no record
pub record Cleared (A₀ : List ℕ) (heads keys end : ℕ) (A : List ℕ) : Type 0 where
  pub none : (m : ℕ) → m < keys → half_at A (heads + m) ≡ end
  pub beside : Beside A₀ heads keys (heads + keys) 0 A

-- the record k is chained, where those past it were
pub record Linking (A₀ : List ℕ) (heads keys links key k : ℕ) (A : List ℕ) : Type 0 where
  pub chained : (f : ℕ → ℕ) (n : ℕ) → key ≡ f k → k < n → Chained f n keys heads links (k + 1) A₀ → Chained f n keys heads links k A
  pub beside : (n : ℕ) → k < n → Beside A₀ heads keys links n A

-- the records from k on are chained
pub record Threaded (A₀ : List ℕ) (f : ℕ → ℕ) (n keys heads links k : ℕ) (A : List ℕ) : Type 0 where
  pub chained : Chained f n keys heads links k A
  pub beside : Beside A₀ heads keys links n A

-- a chain of records stands
abbrev pub Made : List ℕ → List ℕ → Layout → Chain → List ℕ → Type 0
Made W A₀ l c A = Threaded A₀ (key_of W l c) (count_of l c) (keys_of c) (heads_of c) (links_of l c) 0 A

-- no crate has a record yet
pub record Emptied (A₀ : List ℕ) (crates at : ℕ) (A : List ℕ) : Type 0 where
  pub none : (c : ℕ) → c < crates → high_at A at c ≡ 0
  pub below : take at A ≡ take at A₀

-- the first k records are taken in: each crate's range has its records, and is not empty where it ends past 0
pub record Ranging (owner : ℕ → ℕ) (k crates at : ℕ) (A : List ℕ) : Type 0 where
  pub ranged : Ranged owner k crates at A
  pub some : (c : ℕ) → c < crates → 0 < high_at A at c → low_at A at c < high_at A at c
  pub upto : (c : ℕ) → c < crates → high_at A at c ≤ k

-- the record k is taken in, and nothing below the table is changed
pub record Noted (A₀ : List ℕ) (at c k : ℕ) (A : List ℕ) : Type 0 where
  pub ranging : (owner : ℕ → ℕ) (crates : ℕ) → crates ≤ crate_limit → owner k ≡ c → Ranging owner k crates at A₀ → Ranging owner (k + 1) crates at A
  pub below : take at A ≡ take at A₀

-- the ranges of n records, and nothing below the table is changed
pub record Filled (A₀ : List ℕ) (owner : ℕ → ℕ) (n crates at : ℕ) (A : List ℕ) : Type 0 where
  pub ranged : Ranged owner n crates at A
  pub below : take at A ≡ take at A₀

-- the index stands there, and nothing below it is changed
pub record Built (W A₀ : List ℕ) (l : Layout) (A : List ℕ) : Type 0 where
  pub index : Index W l A
  pub below : take row_words A ≡ take row_words A₀
