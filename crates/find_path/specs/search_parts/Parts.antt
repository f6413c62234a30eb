-- The module that the search for an item is asked for at once.
use Rattle.std.specs.Prelude.{ℕ, ◌+◌, Bool, true, false}
use Rattle.hir_def.specs.declared.Item.{Item}
use Rattle.hir_def.specs.declared.Item.TheVariants.{Mod, Def}

-- a module, +1, that the module search is asked for at once: any, but none for a std item
unfoldable pub straight : Bool → Item → ℕ
straight true item = 0
straight false (Mod m) = m.0 + 1
straight false (Def ns d) = 0
