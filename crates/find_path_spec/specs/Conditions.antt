-- What the code of the search relies on, and what it leaves.
use Rattle.std.specs.Prelude.{◌≡◌, ℕ, ◌<◌, ◌≤◌, List, length, take, Option, None, Some, Result, Ok, Err}
use Rattle.snapshot.specs.Limits.{path_limit, area_limit}
use Rattle.snapshot.specs.Records.{scope_at}
use Rattle.snapshot.specs.Layouts.{table_words}
use Rattle.snapshot.specs.declared.layout.Layout.{Layout}
use Rattle.check_records.specs.record_rules.Stands.{counts_in}
use Rattle.accept.specs.Post.{Reads}
use Rattle.accept.specs.Valid.{ScopeFits}
use Rattle.hir_def.specs.Items.{ns_of}
use Rattle.hir_def.specs.Entries.{Known}
use Rattle.hir_def.specs.declared.Item.{Item}
use Rattle.find_path_choice.specs.declared.Choice.{Choice as Path}
use Rattle.find_path_choice.specs.Choices.{Choice}
use Rattle.find_path_choice.specs.Given.{given}
use Rattle.find_path_spec.specs.declared.Tank.{Tank}
use Rattle.find_path_spec.specs.declared.Found.{Found}
use Rattle.find_path_spec.specs.declared.FindPathCtx.{FindPathCtx}
use Rattle.find_path_spec.specs.Meters.{Charged, go, stop}
use Rattle.find_path_spec.specs.Charged.{Out, found_of, given_found}

-- accepted words with their tables, a viewing module that is there, the whole work area, and a limit in range
-- (a clause and no type: the area is written between, and a value with this fact would have to be made anew after each write)
pub record Prepared (W A : List ℕ) (l : Layout) (x : FindPathCtx) : Type 0 where
  pub reads : Reads W A l
  pub from : x.from.0 < l.modules
  pub area : length A ≡ area_limit
  pub some : 0 < x.max_len
  pub limit : x.max_len ≤ path_limit

-- an item that can be asked for
-- (a clause and no type: `Item` is made of a question or of a record, and is known only beside the layout of the words that it is asked of)
abbrev pub Asked : Layout → Item → Type 0
Asked l item = Known l item × (ns_of item ≤ 2)

-- a scope entry that is answered is in range
abbrev pub EntryFits : List ℕ → Layout → Option ℕ → Type 0
EntryFits W l (Some h) = ScopeFits (counts_in l) (scope_at W h)
EntryFits W l None = Unit {0}

-- what the code's charge answers, as the meter's
unfoldable pub charged_by : Result Tank Tank → Charged Tank
charged_by (Ok t) = go t
charged_by (Err t) = stop t

-- A local search answers the choice, and the tables stay.
pub record Chosen (A₀ : List ℕ) (c : Choice) (A : List ℕ) (r : Option Path) : Type 0 where
  pub same : given r ≡ c
  pub tables : take table_words A ≡ take table_words A₀

-- A search that charges answers the choice and the tank, and the tables stay.
pub record Searched (A₀ : List ℕ) (o : Out Tank) (A : List ℕ) (r : Found) : Type 0 where
  pub same : given_found r ≡ found_of o
  pub tables : take table_words A ≡ take table_words A₀
