-- The modules reached as rows of the work area, each with the row before it.
use Rattle.std.specs.Prelude.{ℕ, zero, suc, ◌+◌, ◌*◌, ◌≤◌, ◌<◌, ◌≡◌, List, [], ◌∷◌, Bool, true, false, ◌&&◌, eqb, length, get_or}
use Rattle.std.specs.Prelude.{Some}
use Rattle.snapshot.specs.Lists.{rows}
use Rattle.snapshot.specs.Records.{Snapshot, Scope, Extern}
use Rattle.snapshot.specs.Limits.{module_limit}
use Rattle.snapshot.specs.Layouts.{table_words}
use Rattle.accept.specs.Valid.{Each}
use Rattle.hir_def.specs.Items.{types, module_item}
use Rattle.hir_def.specs.ItemScope.{is_module_entry, entry_module}
use Rattle.nameable.specs.Seen.{seen}
use Rattle.nameable.specs.Paths.{Keyword, supers, crate, Path, keyword, absolute, plain, into, means}
use Rattle.nameable.specs.Breadth.{Way, is_met, with_meaning, added}
use Rattle.nameable.specs.Queue.{passing}

-- a row: the module, the link, the name or the keyword, the place of the record
abbrev pub row_size : ℕ
row_size = 4

abbrev pub row_at : ℕ → ℕ
row_at i = table_words + row_size * i

abbrev pub target_at : List ℕ → ℕ → ℕ
target_at A i = get_or A (row_at i) 0

abbrev pub link_at : List ℕ → ℕ → ℕ
link_at A i = get_or A (row_at i + 1) 0

abbrev pub name_at : List ℕ → ℕ → ℕ
name_at A i = get_or A (row_at i + 2) 0

-- `crate`, or so many `super`
unfoldable pub keyword_from : ℕ → Keyword
keyword_from zero = crate
keyword_from (suc k) = supers k

-- links: 0 a keyword, 1 `::n`, 2 `n`, 3 and more a name after the path of a row
unfoldable pub path_from : (ℕ → Path) → ℕ → ℕ → Path
path_from rec zero n = keyword (keyword_from n)
path_from rec (suc zero) n = absolute n
path_from rec (suc (suc zero)) n = plain n
path_from rec (suc (suc (suc j))) n = into (rec j) n

-- links lead to earlier rows, so that as many steps as the row's number, and one, are enough
unfoldable pub path_to : ℕ → List ℕ → ℕ → Path
path_to zero A i = keyword crate
path_to (suc f) A i = path_from (path_to f A) (link_at A i) (name_at A i)

unfoldable pub path_at : List ℕ → ℕ → Path
path_at A i = path_to (suc i) A i

abbrev pub way_at : List ℕ → ℕ → Way
way_at A i = record { path = path_at A i; target = target_at A i }

unfoldable pub run_at : List ℕ → ℕ → List Way
run_at A n = rows (way_at A) 0 n

-- n rows, of different modules below the number of modules
-- (a clause and no type: the area is written between, and a value with this fact would have to be made anew after each write)
pub record Run (modules : ℕ) (A : List ℕ) (n : ℕ) : Type 0 where
  pub space : row_at module_limit ≤ length A
  pub linked : (i : ℕ) → i < n → link_at A i < i + 3
  pub few : n ≤ passing (is_met (run_at A n)) modules

-- the words below the rows stay
abbrev pub Stays : List ℕ → List ℕ → Type 0
Stays A B = (i : ℕ) → i < table_words → get_or B i 0 ≡ get_or A i 0

-- n rows in the area A have become r rows in B, which are these ways; none of the n is changed.
pub record Grown (modules : ℕ) (A : List ℕ) (n : ℕ) (B : List ℕ) (r : ℕ) (ws : List Way) : Type 0 where
  pub run : Run modules B r
  pub same : run_at B r ≡ ws
  pub more : n ≤ r
  pub rows : (i : ℕ) → i < n → way_at B i ≡ way_at A i
  pub stays : Stays A B
  pub size : length B ≡ length A

-- a row was offered
abbrev pub Offered : ℕ → List ℕ → ℕ → ℕ → ℕ → ℕ → List ℕ → ℕ → Type 0
Offered modules A n t k x B r = Grown modules A n B r (with_meaning (run_at A n) (path_from (path_at A) k x) (Some (module_item t)))

-- an entry that leads on to a module
abbrev pub leads_on : Snapshot → ℕ → ℕ → Scope → Bool
leads_on s from m e = is_module_entry s m e && seen s from e

-- the name of an entry more after a way, where it leads on
unfoldable pub with_entry : Snapshot → ℕ → List Way → Way → Scope → List Way
with_entry s from ws w e =
    elim (leads_on s from w.target e) [
      | true ↦ with_meaning ws (into w.path e.name) (Some (module_item (entry_module s e)))
      | false ↦ ws
    ]

-- an extern of the crate c, by `::` and its name
unfoldable pub with_extern : ℕ → List Way → Extern → List Way
with_extern c ws x =
    elim (eqb x.owner c) [ true ↦ with_meaning ws (absolute x.name) (Some (module_item x.target)) | false ↦ ws ]

-- a name alone, where the test says so
unfoldable pub name_if : Snapshot → ℕ → List Way → Bool → ℕ → List Way
name_if s from ws b n = elim b [ true ↦ added s from ws (plain n ∷ []) | false ↦ ws ]

-- a way means its module
abbrev pub Meant : Snapshot → ℕ → Way → Type 0
Meant s from w = means s from types w.path ≡ Some (module_item w.target)

-- the row number i is one of rows that mean their modules
pub record InRun (s : Snapshot) (from modules : ℕ) (A : List ℕ) (i : ℕ) : Type 0 where
  pub n : ℕ
  pub run : Run modules A n
  pub below : i < n
  pub meant : Each (Meant s from) (run_at A n)
