-- The kinds of records by their numbers.
use Rattle.std.specs.Prelude.{ℕ, [], ◌∷◌, get_or, Option, Some, None}
use Rattle.snapshot.specs.declared.kind.Kind.{Kind}
use Rattle.snapshot.specs.declared.kind.Kind.TheVariants.{Name, Crate, Dependency, Map, Module, Child}
use Rattle.snapshot.specs.declared.kind.Kind.TheVariants.{Prelude, Definition, Scope, Import, Extern, Member}

-- the number of a kind
abbrev pub kind_number : Kind → ℕ
kind_number Name = 1
kind_number Crate = 2
kind_number Dependency = 3
kind_number Map = 4
kind_number Module = 5
kind_number Child = 6
kind_number Prelude = 7
kind_number Definition = 8
kind_number Scope = 9
kind_number Import = 10
kind_number Extern = 11
kind_number Member = 13

-- the kind with a number
abbrev pub kind_with : ℕ → Option Kind
kind_with n =
    get_or (
    None ∷ Some Name ∷ Some Crate ∷ Some Dependency ∷ Some Map ∷ Some Module ∷ Some Child ∷ Some Prelude ∷ Some Definition ∷ Some Scope ∷ Some Import
    ∷ Some Extern ∷ None ∷ Some Member ∷ []) n None
