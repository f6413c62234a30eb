-- Numbers in chains by a key. Only contracts and proofs of the check cite it.
use Rattle.std.specs.Prelude.{ℕ, ◌+◌, ◌-◌, ◌*◌, ◌%◌, ◌≤◌, ◌<◌, ◌≡◌, List, [], ◌∷◌, true, false, not, eqb, get_or, set}
use Rattle.snapshot.specs.Lists.{rows, any}
use Rattle.snapshot.specs.Limits.{module_limit}
use Rattle.snapshot.specs.Words.{pay_of}
use Rattle.snapshot.specs.Records.{Name}
use Rattle.snapshot.specs.Layouts.{row_words}

-- Where they stand in the work area, past the tables: the heads, a word a key, the marks, a word a module, and the links, a word a number.

abbrev pub name_heads : ℕ
name_heads = row_words

abbrev pub scope_heads : ℕ
scope_heads = 4544

abbrev pub extern_heads : ℕ
extern_heads = 4928

abbrev pub child_marks : ℕ
child_marks = 5312

abbrev pub module_marks : ℕ
module_marks = 5824

-- heads and marks stand before it, and the mark of definitions of no module at it
abbrev pub marks_end : ℕ
marks_end = 6336

abbrev pub name_links : ℕ
name_links = 6344

abbrev pub scope_links : ℕ
scope_links = 8392

abbrev pub extern_links : ℕ
extern_links = 10736

-- a number mixed with words
unfoldable pub mixed : ℕ → List ℕ → ℕ
mixed a [] = a
mixed a (w ∷ ws) = mixed ((a + w) * 1640531527 % 4294967296) ws

-- how many keys there are
abbrev pub keys : ℕ
keys = 383

abbrev pub name_key : Name → ℕ
name_key x = mixed x.bytes x.text % keys

-- of the record with its head at a place: its owner, its first field and the last one that counts
abbrev pub record_key : List ℕ → ℕ → ℕ → ℕ
record_key W fields a = (pay_of (get_or W a 0) * 37 + get_or W (a + 1) 0 * 5 + get_or W (a + fields) 0) % keys

-- of the definition with its head at a place: its module, or the number past all modules for another kind
unfoldable pub slot_of : List ℕ → ℕ → ℕ
slot_of W a = elim (eqb (pay_of (get_or W a 0)) 1) [ true ↦ get_or W (a + 1) 0 | false ↦ module_limit ]

-- each module has a word that is not 0 where one of the first n records is its
pub record Marked (A : List ℕ) (marks : ℕ) (key : ℕ → ℕ) (n : ℕ) : Type 0 where
  pub same : (m : ℕ) → m < module_limit → not (eqb (get_or A (marks + m) 0) 0) ≡ any (eqb m) (rows key 0 n)

-- c is one more than the last number below n with the key b, or 0 where there is none
pub record Last (key : ℕ → ℕ) (b n c : ℕ) : Type 0 where
  pub within : c ≤ n
  pub keyed : 0 < c → key (c - 1) ≡ b
  pub none : (j : ℕ) → c ≤ j → j < n → key j ≡ b → ⊥

-- the numbers below n: each of the keys below a count has the last with it, and each number the last before it with its key
pub record ChainedBy (count : ℕ) (A : List ℕ) (heads links : ℕ) (key : ℕ → ℕ) (n : ℕ) : Type 0 where
  pub first : (b : ℕ) → b < count → Last key b n (get_or A (heads + b) 0)
  pub next : (i : ℕ) → i < n → Last key (key i) i (get_or A (links + i) 0)

abbrev pub Chained : List ℕ → ℕ → ℕ → (ℕ → ℕ) → ℕ → Type 0
Chained A heads links key n = ChainedBy keys A heads links key n

-- the words from a place to another are 0, and all others stay
pub record Cleared (A₀ A : List ℕ) (from to : ℕ) : Type 0 where
  pub zero : (i : ℕ) → from ≤ i → i < to → get_or A i 0 ≡ 0
  pub before : (i : ℕ) → i < from → get_or A i 0 ≡ get_or A₀ i 0
  pub after : (i : ℕ) → to ≤ i → get_or A i 0 ≡ get_or A₀ i 0

-- the number n before those with its key
unfoldable pub linked : List ℕ → ℕ → ℕ → ℕ → ℕ → List ℕ
linked A heads links b n = set (set A (links + n) (get_or A (heads + b) 0)) (heads + b) (n + 1)
