-- What is right to answer where any path to an item is asked for.
use Rattle.std.specs.Prelude.{ℕ, ◌≤◌, ◌<◌, ◌≡◌, true, false}
use Rattle.snapshot.specs.Records.{Snapshot}
use Rattle.hir_def.specs.declared.Item.{Item}
use Rattle.nameable.specs.Paths.{Path, names_in, is_plain, Names, Nameable}
use Rattle.nameable.specs.Breadth.{AnyPath, found, longer, nowhere, names_limit}

-- a path that names the item
pub record Found (s : Snapshot) (from : ℕ) (item : Item) (p : Path) : Type 0 where
  pub names : Names s from item p
  pub few : names_in p ≤ names_limit
  -- none is shorter
  pub least : (q : Path) → Names s from item q → names_in p ≤ names_in q
  -- where it begins with a name, each that doesn't is longer
  pub keyword : is_plain p ≡ true → (q : Path) → Names s from item q → is_plain q ≡ false → names_in p < names_in q

-- a path names it, and each that does has too many names
pub record Longer (s : Snapshot) (from : ℕ) (item : Item) : Type 0 where
  pub some : Nameable s from item
  pub many : (q : Path) → Names s from item q → names_limit < names_in q

abbrev pub Right : Snapshot → ℕ → Item → AnyPath → Type 0
Right s from item (found p) = Found s from item p
Right s from item longer = Longer s from item
Right s from item nowhere = Nameable s from item → ⊥
