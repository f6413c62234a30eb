-- Roles by their numbers.
use Rattle.std.specs.Prelude.{ℕ}
use Rattle.join.specs.declared.records.fields.Role.{Role}
use Rattle.join.specs.declared.records.fields.Role.TheVariants.{Nothing, Crate, Map, Module, Parent, Name, Definition, First, Second, Seen}

-- the number of a role
abbrev pub role_number : Role → ℕ
role_number Nothing = 0
role_number Crate = 1
role_number Map = 2
role_number Module = 3
role_number Parent = 4
role_number Name = 5
role_number Definition = 6
role_number First = 7
role_number Second = 8
role_number Seen = 9
