-- What an answer says of its number.
use Rattle.snapshot.specs.declared.ids.ModuleId.{ModuleId}
use Rattle.std.specs.Prelude.{ℕ, ◌+◌, Option, None, Some}

-- a module's number +1, 0 for none
unfoldable pub plus_one : Option ModuleId → ℕ
plus_one (Some m) = m.0 + 1
plus_one None = 0
