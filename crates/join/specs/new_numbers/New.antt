-- The new numbers of a join, for any two inputs: which is refused, and what the work area holds where none is.
use Rattle.std.specs.Prelude.{ℕ, ◌≤◌, ◌<◌, ◌^◌, ◌≡◌, List, true, false, ltb, length, drop}
use Rattle.snapshot.specs.Limits.{area_limit}
use Rattle.snapshot.specs.Refusals.{area_refusal}
use Rattle.snapshot.specs.Records.{Snapshot}
use Rattle.check_rules.specs.Verdict.{Verdict, refuse, accept, verdict}
use Rattle.answer.specs.Answers.{area_after}
use Rattle.join_rules.specs.Joined.{second_numbers}
use Rattle.join.specs.numbers.Numbered.{NumbersIn}

-- the number of the first input, or of the second; 0 where both are accepted
unfoldable pub fault_by : Verdict → Verdict → ℕ
fault_by (refuse n at) v = n
fault_by (accept s) (refuse n at) = n
fault_by (accept s) (accept t) = 0

-- the same with a work area of so many words
unfoldable pub numbers_fault : ℕ → List ℕ → List ℕ → ℕ
numbers_fault area W X = elim (ltb area area_limit) [ true ↦ area_refusal | false ↦ fault_by (verdict W) (verdict X) ]

-- with an area that serves: where both are accepted it holds the numbers of the second's names and definitions
pub record NumbersBy (v w : Verdict) (A : List ℕ) (r : ℕ) : Type 0 where
  pub number : r ≡ fault_by v w
  pub tables : (s t : Snapshot) → v ≡ accept s → w ≡ accept t → NumbersIn s t A

-- A₀ is the work area before the call, A after it
pub record NewNumbers (W X A₀ A : List ℕ) (r : ℕ) : Type 0 where
  pub number : r ≡ numbers_fault (length A₀) W X
  pub tables : (s t : Snapshot) → area_limit ≤ length A₀ → verdict W ≡ accept s → verdict X ≡ accept t → NumbersIn s t A
  pub cleared : (numbers_fault (length A₀) W X ≡ 0 → ⊥) → A ≡ area_after A₀
  pub rest : drop area_limit A ≡ drop area_limit A₀

-- the new number of a name or a definition of the second, read from an area that holds them

abbrev pub NewName : List ℕ → ℕ → ℕ → Type 0
NewName A n r = (s t : Snapshot) → NumbersIn s t A → n < length t.names → n < 2 ^ 32 → r ≡ (second_numbers s t).names n

abbrev pub NewDefinition : List ℕ → ℕ → ℕ → Type 0
NewDefinition A n r = (s t : Snapshot) → NumbersIn s t A → n < length t.definitions → n < 2 ^ 32 → r ≡ (second_numbers s t).definitions n

-- the new number of a crate, a map or a module of the second, by how many the first has

abbrev pub NewCrate : ℕ → ℕ → ℕ → Type 0
NewCrate k n r = (s t : Snapshot) → k ≡ length s.crates → k < 2 ^ 32 → n < 2 ^ 32 → r ≡ (second_numbers s t).crates n

abbrev pub NewMap : ℕ → ℕ → ℕ → Type 0
NewMap k n r = (s t : Snapshot) → k ≡ length s.maps → k < 2 ^ 32 → n < 2 ^ 32 → r ≡ (second_numbers s t).maps n

abbrev pub NewModule : ℕ → ℕ → ℕ → Type 0
NewModule k n r = (s t : Snapshot) → k ≡ length s.modules → k < 2 ^ 32 → n < 2 ^ 32 → r ≡ (second_numbers s t).modules n
