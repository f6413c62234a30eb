-- The kinds of definitions by their numbers.
use Rattle.std.specs.Prelude.{ℕ, [], ◌∷◌, get_or, Option, Some, None}
use Rattle.snapshot.specs.declared.ids.DefinitionKind.{DefinitionKind}
use Rattle.snapshot.specs.declared.ids.DefinitionKind.TheVariants.{Module, Variant, Builtin, Other, Macro}

-- the number of a kind of definitions
abbrev pub definition_kind_number : DefinitionKind → ℕ
definition_kind_number Module = 1
definition_kind_number Variant = 2
definition_kind_number Builtin = 3
definition_kind_number Other = 4
definition_kind_number Macro = 5

-- the kind with a number
abbrev pub definition_kind_of : ℕ → Option DefinitionKind
definition_kind_of n = get_or (None ∷ Some Module ∷ Some Variant ∷ Some Builtin ∷ Some Other ∷ Some Macro ∷ []) n None
