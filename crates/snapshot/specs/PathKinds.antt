-- The path kinds by their numbers.
use Rattle.std.specs.Prelude.{ℕ, [], ◌∷◌, get_or, Option, Some, None}
use Rattle.snapshot.specs.declared.ids.PathKind.{PathKind}
use Rattle.snapshot.specs.declared.ids.PathKind.TheVariants.{Plain, SelfModule, Super, Crate, Absolute}

-- the number of a path kind
abbrev pub path_kind_number : PathKind → ℕ
path_kind_number Plain = 0
path_kind_number SelfModule = 1
path_kind_number Super = 2
path_kind_number Crate = 3
path_kind_number Absolute = 4

-- the path kind with a number
abbrev pub path_kind_of : ℕ → Option PathKind
path_kind_of n = get_or (Some Plain ∷ Some SelfModule ∷ Some Super ∷ Some Crate ∷ Some Absolute ∷ []) n None
