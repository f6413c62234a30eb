-- Rows: the answer for a module with its number left and no levels, a word a module. It is rebuilt from the answer for the module of its entry.
use Rattle.std.specs.Prelude.{ℕ, ◌+◌, ◌-◌, ◌*◌, ◌/◌, ◌%◌, ◌≤◌, ◌<◌, ◌≡◌, List, [], Bool, true, false, eqb, get_or}
use Rattle.snapshot.specs.Records.{Snapshot, Scope, scope_at}
use Rattle.snapshot.specs.Layouts.{snap_of}
use Rattle.snapshot.specs.declared.layout.Layout.{Layout}
use Rattle.check_records.specs.record_rules.Stands.{counts_in}
use Rattle.accept.specs.Valid.{ScopeFits}
use Rattle.find_path_choice.specs.Choices.{Choice}
use Rattle.find_path_spec.specs.declared.FindPathCtx.{FindPathCtx}
use Rattle.find_path_choice.specs.Choices.{via_local, step_by, nothing, extended}
use Rattle.find_path_spec.specs.Walk.{has}
use Rattle.find_path_spec.specs.Search.{search_local}
use Rattle.find_path_spec.specs.laws.Near.{locations, imports}
use Rattle.find_path_local.specs.distances.Distances.{distance}

-- they stand at the end of the work area
abbrev pub rows_at : ℕ
rows_at = 15872

abbrev pub row_at : List ℕ → ℕ → ℕ
row_at A m = get_or A (rows_at + m) 0

unfoldable pub flag_number : Bool → ℕ
flag_number true = 1
flag_number false = 0

-- the place of the record of the last step
abbrev pub last_place : Choice → ℕ
last_place c = get_or c.route (c.steps - 1) 0 / 8

unfoldable pub row_if : Bool → ℕ → Bool → ℕ
row_if true h b = 2 * h + 2 + flag_number b
row_if false h b = 1

-- the row of a choice: 1 for none; else the place of its last entry and the flag for `prelude`
abbrev pub row_of : Choice → ℕ
row_of c = row_if c.found (last_place c) c.has_prelude_segment

abbrev pub row_place : ℕ → ℕ
row_place w = w / 2 - 1

abbrev pub row_flag : ℕ → Bool
row_flag w = eqb (w % 2) 1

-- a choice with that flag for `prelude`
unfoldable pub flagged : Choice → Bool → Choice
flagged c b =
    record {
      found = c.found;
      kind = c.kind;
      names = c.names;
      count = c.count;
      path_text_len = c.path_text_len;
      stable = c.stable;
      has_prelude_segment = b;
      route = c.route;
      steps = c.steps;
    }

-- the answer for m with k left is that for the module of the entry e, one less left, with the entry's name
pub record Entered (l : Layout) (s : Snapshot) (x : FindPathCtx) (k m : ℕ) (e : Scope) (flag : Bool) : Type 0 where
  pub fits : ScopeFits (counts_in l) e
  pub taken : has (locations s x [] m) e.owner ≡ true
  pub entry : imports s x m e.owner ≡ true
  pub found : (search_local s x (k - 1) [] e.owner).found ≡ true
  pub same : search_local s x k [] m ≡ extended s (search_local s x (k - 1) [] e.owner) e.name (step_by via_local e.place) flag

-- The row w of the module m, whose number is k: 0 where nothing is known, 1 where nothing is found.
pub record Row (W : List ℕ) (l : Layout) (s : Snapshot) (x : FindPathCtx) (k m w : ℕ) : Type 0 where
  pub nowhere : w ≡ 1 → search_local s x k [] m ≡ nothing
  pub somewhere : 2 ≤ w → Entered l s x k m (scope_at W (row_place w)) (row_flag w)

-- the rows of all modules
abbrev pub Rows : List ℕ → List ℕ → Layout → FindPathCtx → Type 0
Rows W A l x = (m : ℕ) → m < l.modules → Row W l (snap_of W A l) x (distance A m) m (row_at A m)
