-- The records of each crate, of a kind whose records have an owner: from its first to its last.
use Rattle.std.specs.Prelude.{ℕ, ◌+◌, ◌*◌, ◌≤◌, ◌<◌, ◌≡◌, List, get_or}
use Rattle.snapshot.specs.Limits.{crate_limit}
use Rattle.snapshot.specs.Sizes.{dependency_size, extern_size}
use Rattle.snapshot.specs.Records.{dependency_at, extern_at}
use Rattle.snapshot.specs.Layouts.{dependency_base, extern_base}
use Rattle.snapshot.specs.declared.layout.Layout.{Layout}

-- the words that a table has for the crate c

abbrev pub low_at : List ℕ → ℕ → ℕ → ℕ
low_at A at c = get_or A (at + c) 0

abbrev pub high_at : List ℕ → ℕ → ℕ → ℕ
high_at A at c = get_or A (at + crate_limit + c) 0

-- of the first n records, each that is the crate's stands within them
abbrev pub Within : (ℕ → ℕ) → ℕ → ℕ → ℕ → ℕ → Type 0
Within owner n c low high = (i : ℕ) → i < n → owner i ≡ c → (low ≤ i) × (i < high)

-- so for all crates
abbrev pub Ranged : (ℕ → ℕ) → ℕ → ℕ → ℕ → List ℕ → Type 0
Ranged owner n crates at A = (c : ℕ) → c < crates → Within owner n c (low_at A at c) (high_at A at c)

-- the crates of the records k

abbrev pub dependency_owner_at : List ℕ → Layout → ℕ → ℕ
dependency_owner_at W l k = (dependency_at W (dependency_base l + dependency_size * k)).owner

abbrev pub extern_owner_at : List ℕ → Layout → ℕ → ℕ
extern_owner_at W l k = (extern_at W (extern_base l + extern_size * k)).owner
