-- The answer of the check, as numbers.
use Rattle.std.specs.Prelude.{ℕ, ◌≡◌, List, [], ◌∷◌, length, drop}
use Rattle.snapshot.specs.Limits.{area_limit}
use Rattle.snapshot.specs.Records.{Snapshot}
use Rattle.snapshot.specs.Layouts.{snap_of}
use Rattle.snapshot.specs.declared.layout.Layout.{Layout}
use Rattle.check_rules.specs.Verdict.{Verdict, refuse, accept}
use Rattle.accept.specs.Post.{Reads, check_of}
use Rattle.answer.specs.Answers.{area_after}

-- the number of the refusal, 0 for none
abbrev pub number_of : Verdict → ℕ
number_of (refuse n at) = n
number_of (accept s) = 0

-- the number, its place, and how many records of each kind there are, in the order of the kinds
abbrev pub answer_of : Verdict → List ℕ
answer_of (refuse n at) = n ∷ at ∷ 0 ∷ 0 ∷ 0 ∷ 0 ∷ 0 ∷ 0 ∷ 0 ∷ 0 ∷ 0 ∷ 0 ∷ 0 ∷ 0 ∷ []
answer_of (accept s) =
    0
    ∷ 0
    ∷ length s.names
    ∷ length s.crates
    ∷ length s.dependencies
    ∷ length s.maps
    ∷ length s.modules
    ∷ length s.children
    ∷ length s.preludes
    ∷ length s.definitions
    ∷ length s.scopes
    ∷ length s.imports
    ∷ length s.externs
    ∷ length s.members
    ∷ []

-- the numbers are those of the check's definition; accepted words can be read by the tables, and the area past its first 16,384 words stays;
-- after a refusal the area is as after every other call
pub record Answered (W A₀ A answer : List ℕ) (r : ℕ) : Type 0 where
  pub same : answer ≡ answer_of (check_of (length A₀) W)
  pub number : r ≡ number_of (check_of (length A₀) W)
  pub tables : (s : Snapshot) → check_of (length A₀) W ≡ accept s → (l : Layout) × Reads W A l × (snap_of W A l ≡ s)
  pub rest : (s : Snapshot) → check_of (length A₀) W ≡ accept s → drop area_limit A ≡ drop area_limit A₀
  pub cleared : (n at : ℕ) → check_of (length A₀) W ≡ refuse n at → A ≡ area_after A₀
