-- The records of a kind as one value.
use Rattle.hir_def.specs.declared.Span.{Span}
use Rattle.hir_def.specs.declared.Part.{Part}
use Rattle.std.specs.Prelude.{ℕ, ◌≡◌, ◌<◌, List}
use Rattle.snapshot.specs.declared.layout.Layout.{Layout}
use Rattle.record_index.specs.Ranges.{Within, Ranged}

-- n records of one size from a place on
pub record Covers (s : Span) (base size n : ℕ) : Type 0 where
  pub starts : s.base ≡ base
  pub sized : s.size ≡ size
  pub counts : s.count ≡ n

-- all records of the crate c stand within the part, for kinds whose ranges stand in a table
abbrev pub Parted : Layout → List ℕ → ℕ → ℕ → Part → Type 0
Parted l A at c p = (owner : ℕ → ℕ) (n : ℕ) → Ranged owner n l.crates at A → ((i : ℕ) → i < n → owner i < l.crates) → Within owner n c p.low p.high
