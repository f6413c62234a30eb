-- A path put together from what is told of it, name by name; and what is answered of a name.
use Rattle.std.specs.Prelude.{ℕ, zero, suc, ◌≡◌, List, true, false, eqb, get_or}
use Rattle.std.specs.Prelude.{Option, option_map}
use Rattle.snapshot.specs.declared.ids.PathKind.{PathKind}
use Rattle.snapshot.specs.declared.ids.PathKind.TheVariants.{Plain, SelfModule, Super, Crate, Absolute}
use Rattle.hir_def.specs.Items.{types}
use Rattle.nameable.specs.Paths.{Keyword, supers, crate, Path, keyword, absolute, plain, into, Named}
use Rattle.told_paths.specs.declared.told_routes.Meaning.{Meaning}

-- the keyword of a kind, with so many `super`
unfoldable pub keyword_by : PathKind → ℕ → Keyword
keyword_by Crate u = crate
keyword_by Plain u = supers u
keyword_by SelfModule u = supers u
keyword_by Super u = supers u
keyword_by Absolute u = supers u

-- a path of a kind with its first name; p is the path without names
unfoldable pub first_path : PathKind → Path → ℕ → Path
first_path Plain p n = plain n
first_path Absolute p n = absolute n
first_path SelfModule p n = into p n
first_path Super p n = into p n
first_path Crate p n = into p n

-- after k names one more
unfoldable pub next_path : PathKind → ℕ → Path → ℕ → Path
next_path kind zero p n = first_path kind p n
next_path kind (suc k) p n = into p n

-- the first k names
unfoldable pub path_by : PathKind → ℕ → List ℕ → ℕ → Path
path_by kind u names zero = keyword (keyword_by kind u)
path_by kind u names (suc k) = next_path kind k (path_by kind u names k) (get_or names k 0)

-- where the last of the first k names is looked up
unfoldable pub ns_of_first : ℕ → ℕ → ℕ → ℕ
ns_of_first ns count k = elim (eqb k count) [ true ↦ ns | false ↦ types ]

-- what a name is read as
abbrev pub meaning_of : Named → Meaning
meaning_of x = record { item = x.item; place = x.place }

-- it is answered, or that there is none
abbrev pub Answers : Option Named → Option Meaning → Type 0
Answers o x = x ≡ option_map meaning_of o
