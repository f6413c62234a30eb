-- The first path to an item as its last step after the rows.
use Rattle.told_paths.specs.declared.arrivals.LastStep.{LastStep}
use Rattle.std.specs.Prelude.{ℕ, ◌+◌, ◌<◌, ◌≡◌, List, [], ◌∷◌, Bool, true, false, ◌&&◌, eqb, get_or}
use Rattle.std.specs.Prelude.{Option, None, Some}
use Rattle.snapshot.specs.Records.{Snapshot, Scope, Prelude}
use Rattle.accept.specs.Opened.{snap_in}
use Rattle.module_tree.specs.rules.Modules.{map_no}
use Rattle.hir_def.specs.Finds.{first_of, first_some, or_first}
use Rattle.hir_def.specs.Items.{types, ns_of}
use Rattle.hir_def.specs.ItemScope.{is_for}
use Rattle.hir_def.specs.Nameres.{prelude_of}
use Rattle.hir_def.specs.declared.Item.{Item}
use Rattle.hir_def.specs.declared.View.{View}
use Rattle.nameable.specs.Seen.{seen}
use Rattle.nameable.specs.Paths.{Path, plain, place_in, reads, means, scopes_from}
use Rattle.nameable.specs.Breadth.{Way, is_item}
use Rattle.nameable.specs.Queue.{run}
use Rattle.any_path.specs.Rows.{row_at, path_from, path_at, run_at, Run}

-- the path of the first way to the module
unfoldable pub way_of : ℕ → List Way → Option Path
way_of m [] = None
way_of m (w ∷ ws) = elim (eqb w.target m) [ true ↦ Some w.path | false ↦ way_of m ws ]

-- each row has the place of the record by which its last name is read
abbrev pub Placed : Snapshot → ℕ → List ℕ → ℕ → Type 0
Placed s from A n = (i : ℕ) → i < n → get_or A (row_at i + 3) 0 ≡ place_in (reads s from types (path_at A i))

-- a step after one of n rows of the area: the path, and, where the rows have their places, the record by which its last name is read
pub record Steps (s : Snapshot) (from ns : ℕ) (A : List ℕ) (n : ℕ) (o : Option Path) (k x p : ℕ) : Type 0 where
  pub path : o ≡ Some (path_from (path_at A) k x)
  pub linked : k < n + 3
  pub place : Placed s from A n → p ≡ place_in (reads s from ns (path_from (path_at A) k x))

-- what is answered is this path
unfoldable pub LeadsTo : Snapshot → ℕ → ℕ → List ℕ → ℕ → Option Path → Option LastStep → Type 0
LeadsTo s from ns A n o (Some q) = Steps s from ns A n o q.link q.name q.at
LeadsTo s from ns A n o None = o ≡ None

-- the n rows of the area are a run
-- (a clause: `named` and the number of rows are arguments of each call, so a type of both would be made at each)
pub record Ready (b : Bool) (v : View) (n : ℕ) : Type 0 where
  pub rows : Run v.db.records.layout.modules v.db.area.now n
  pub same : run_at v.db.area.now n ≡ run b (snap_in v.db) v.from.0

-- Plain names of an item that is no module.

-- a seen entry of the module for the item, whose name alone means the item
abbrev pub is_plain_for : Snapshot → ℕ → ℕ → Item → Scope → Bool
is_plain_for s from m item e = (is_for s m item e && seen s from e) && is_item item (means s from (ns_of item) (plain e.name))

unfoldable pub plain_in : Snapshot → ℕ → Item → ℕ → Option Scope
plain_in s from item m = first_of (is_plain_for s from m item) s.scopes

unfoldable pub plain_in_prelude : Snapshot → ℕ → Item → Option Prelude → Option Scope
plain_in_prelude s from item None = None
plain_in_prelude s from item (Some p) = plain_in s from item p.target

-- in the viewer's scopes, and in the prelude of its map
unfoldable pub plain_entry : Snapshot → ℕ → Item → Option Scope
plain_entry s from item =
    or_first (first_some (plain_in s from item) (scopes_from s from)) (plain_in_prelude s from item (prelude_of s (map_no s from)))
