-- The inputs of a join. Both were checked with one work area, and the second check wrote over the first's tables: of the first part only the words
-- and the layout are left.
use Rattle.std.specs.Prelude.{ℕ, zero, suc, ◌+◌, ◌≤◌, ◌≡◌, List, [], ◌∷◌, length, get_or}
use Rattle.snapshot.specs.Limits.{word_limit, area_limit}
use Rattle.snapshot.specs.Words.{pay_of, words_of}
use Rattle.snapshot.specs.Sizes.{definition_size}
use Rattle.snapshot.specs.Records.{Name, Snapshot, name_at, definition_at}
use Rattle.snapshot.specs.Layouts.{definition_base, word_count, records_of}
use Rattle.snapshot.specs.declared.layout.Layout.{Layout}
use Rattle.check_records.specs.record_rules.Stands.{Limited}
use Rattle.check_rules.specs.Verdict.{accept, verdict}
use Rattle.accept.specs.Post.{Reads}
use Rattle.find_path_spec.specs.Line.{snapshot_of}
use Rattle.edit_rules.specs.Written.{name_words, each_words, snapshot_words}
use Rattle.join.specs.declared.numbers.inputs.Parts.{Parts}

-- the snapshot of an input
abbrev pub part_of : List ℕ → Snapshot
part_of W = snapshot_of (verdict W)

-- the counts of a layout are those of a snapshot
pub record Counted (l : Layout) (s : Snapshot) : Type 0 where
  pub text : length (each_words name_words s.names) ≡ l.text
  pub names : length s.names ≡ l.names
  pub crates : length s.crates ≡ l.crates
  pub dependencies : length s.dependencies ≡ l.dependencies
  pub maps : length s.maps ≡ l.maps
  pub modules : length s.modules ≡ l.modules
  pub children : length s.children ≡ l.children
  pub preludes : length s.preludes ≡ l.preludes
  pub definitions : length s.definitions ≡ l.definitions
  pub scopes : length s.scopes ≡ l.scopes
  pub imports : length s.imports ≡ l.imports
  pub externs : length s.externs ≡ l.externs
  pub members : length s.members ≡ l.members

-- the place after the name with its head at a place
abbrev pub after_name : List ℕ → ℕ → ℕ
after_name W at = at + 1 + words_of (pay_of (get_or W at 0))

-- n names, one after the other from a place on
unfoldable pub names_from : List ℕ → ℕ → ℕ → List Name
names_from W at zero = []
names_from W at (suc n) = name_at W at ∷ names_from W (after_name W at) n

-- words that were accepted, with their layout: what can be read without tables
pub record Part (W : List ℕ) (l : Layout) : Type 0 where
  pub same : verdict W ≡ accept (part_of W)
  pub words : W ≡ snapshot_words (part_of W)
  pub whole : word_count l ≡ length W
  pub short : length W ≤ word_limit
  pub limited : Limited l
  -- no map is empty
  pub maps : l.maps ≤ l.modules
  pub counted : Counted l (part_of W)
  -- names are walked from the first word on
  pub names : (part_of W).names ≡ names_from W 0 l.names
  pub definitions : (part_of W).definitions ≡ records_of definition_at definition_size W (definition_base l) l.definitions

-- both inputs, and a work area with the tables of the second
-- (a clause and no type: the tables of the new numbers are written to the area, and a value with this fact would have to be made anew after each)
pub record Ready (W X A : List ℕ) (l₁ l₂ : Layout) : Type 0 where
  pub first : Part W l₁
  pub second : Reads X A l₂
  pub room : area_limit ≤ length A

abbrev pub ready_in : Parts → List ℕ → Type 0
ready_in p A = Ready p.first.words.now p.second.words.now A p.first.layout p.second.layout

-- the snapshots of both

abbrev pub first_in : Parts → Snapshot
first_in p = part_of p.first.words.now

abbrev pub second_in : Parts → Snapshot
second_in p = part_of p.second.words.now
