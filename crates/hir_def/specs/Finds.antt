-- Finding in lists.
use Rattle.std.specs.Prelude.{ℕ, ◌+◌, List, [], ◌∷◌, Bool, true, false}
use Rattle.std.specs.Prelude.{Option, None, Some}
unfoldable pub use Rattle.module_tree.specs.rules.Modules.{place_of}

-- the first element that passes the test
unfoldable pub first_of : {A : Type 0} → (A → Bool) → List A → Option A
first_of p [] = None
first_of p (x ∷ xs) = elim (p x) [ true ↦ Some x | false ↦ first_of p xs ]

-- how many elements are read to find it: those up to and with it, or all where none passes
unfoldable pub reads_of : {A : Type 0} → (A → Bool) → List A → ℕ
reads_of p [] = 0
reads_of p (x ∷ xs) = elim (p x) [ true ↦ 1 | false ↦ reads_of p xs + 1 ]

-- the first answer, or else the second
unfoldable pub or_first : {A : Type 0} → Option A → Option A → Option A
or_first None o = o
or_first (Some x) o = Some x

-- the elements that pass the test, in order
unfoldable pub select : {A : Type 0} → (A → Bool) → List A → List A
select p [] = []
select p (x ∷ xs) = elim (p x) [ true ↦ x ∷ select p xs | false ↦ select p xs ]

-- the first answer among those of the elements
unfoldable pub first_some : {A B : Type 0} → (A → Option B) → List A → Option B
first_some f [] = None
first_some f (x ∷ xs) = elim (f x) [ Some y ↦ Some y | None ↦ first_some f xs ]
