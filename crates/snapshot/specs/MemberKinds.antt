-- The kinds of members by their numbers.
use Rattle.std.specs.Prelude.{ℕ, [], ◌∷◌, get_or, Option, Some, None}
use Rattle.snapshot.specs.declared.ids.MemberKind.{MemberKind}
use Rattle.snapshot.specs.declared.ids.MemberKind.TheVariants.{Variant, Function, Constant, TypeAlias}

-- the number of a kind of members
abbrev pub member_kind_number : MemberKind → ℕ
member_kind_number Variant = 0
member_kind_number Function = 1
member_kind_number Constant = 2
member_kind_number TypeAlias = 3

-- the kind with a number
abbrev pub member_kind_of : ℕ → Option MemberKind
member_kind_of n = get_or (Some Variant ∷ Some Function ∷ Some Constant ∷ Some TypeAlias ∷ []) n None
