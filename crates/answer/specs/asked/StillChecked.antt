-- Words that an earlier call accepted, with their tables in a work area: the numbers that the check wrote give the layout back.
use Rattle.std.specs.Prelude.{ℕ, ◌-◌, ◌≤◌, ◌≡◌, List, [], ◌∷◌, length, get_or}
use Rattle.snapshot.specs.Limits.{area_limit}
use Rattle.snapshot.specs.Layouts.{word_count}
use Rattle.snapshot.specs.declared.layout.Layout.{Layout}
use Rattle.accept.specs.Post.{Reads}

-- what the check writes for accepted words: no refusal, no place, and how many records of each kind there are
abbrev pub counted : Layout → List ℕ
counted l =
    0
    ∷ 0
    ∷ l.names
    ∷ l.crates
    ∷ l.dependencies
    ∷ l.maps
    ∷ l.modules
    ∷ l.children
    ∷ l.preludes
    ∷ l.definitions
    ∷ l.scopes
    ∷ l.imports
    ∷ l.externs
    ∷ l.members
    ∷ []

-- the layout of these numbers, with so many words of names; only the check looks at the latest map
abbrev pub layout_with : ℕ → List ℕ → Layout
layout_with text C =
    record {
      text = text;
      names = get_or C 2 0;
      crates = get_or C 3 0;
      dependencies = get_or C 4 0;
      maps = get_or C 5 0;
      modules = get_or C 6 0;
      children = get_or C 7 0;
      preludes = get_or C 8 0;
      definitions = get_or C 9 0;
      scopes = get_or C 10 0;
      imports = get_or C 11 0;
      externs = get_or C 12 0;
      members = get_or C 13 0;
      latest = 0;
    }

-- of n words; those that no other record takes are the names'
abbrev pub layout_of : ℕ → List ℕ → Layout
layout_of n C = layout_with (n - word_count (layout_with 0 C)) C

-- the words W were accepted, C are the numbers that their check wrote, and the work area A has their tables
-- (a clause and no type: the area is written between, and a value with this fact would have to be made anew after each write)
pub record StillChecked (W A C : List ℕ) : Type 0 where
  pub layout : Layout
  pub reads : Reads W A layout
  pub counts : C ≡ counted layout
  pub room : area_limit ≤ length A
