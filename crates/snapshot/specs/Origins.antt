-- The origins of crates by their numbers.
use Rattle.std.specs.Prelude.{ℕ}
use Rattle.snapshot.specs.declared.ids.CrateOrigin.{CrateOrigin}
use Rattle.snapshot.specs.declared.ids.CrateOrigin.TheVariants.{Ordinary, Core, Alloc, Std, OtherLanguage}

-- the number of an origin
abbrev pub origin_number : CrateOrigin → ℕ
origin_number Ordinary = 0
origin_number Core = 1
origin_number Alloc = 2
origin_number Std = 3
origin_number OtherLanguage = 4
