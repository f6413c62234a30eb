-- What the check promises, and what a reader of accepted words may rely on.
use Rattle.std.specs.Prelude.{ℕ, ◌+◌, ◌≤◌, ◌<◌, ◌≡◌, List, true, false, ltb, length, get_or, drop, Result, Ok, Err}
use Rattle.snapshot.specs.Limits.{area_limit, word_limit}
use Rattle.snapshot.specs.Refusals.{area_refusal, refusal_number}
use Rattle.snapshot.specs.Words.{pay_of, words_of}
use Rattle.snapshot.specs.Records.{map_at}
use Rattle.snapshot.specs.Layouts.{word_count, name_head, module_map, module_head, map_root, own_map, maps_of, snap_of}
use Rattle.snapshot.specs.declared.layout.Layout.{Layout}
use Rattle.check_rules.specs.Verdict.{Verdict, refuse, accept, verdict}
use Rattle.check_rules.specs.Tests.{no_map}
use Rattle.check_records.specs.record_rules.Stands.{Limited, own_of}
use Rattle.record_index.specs.Index.{Index}
use Rattle.accept.specs.declared.check.Refused.{Refused}

-- what the check answers
abbrev pub Checked : Type 0
Checked = Result Layout Refused

-- the layout and the tables of accepted words: everything lies within the words, and the tables say what the lists say
pub record Tables (W A : List ℕ) (l : Layout) : Type 0 where
  pub whole : word_count l ≡ length W
  pub short : length W ≤ word_limit
  pub limited : Limited l
  -- no map is empty
  pub maps : l.maps ≤ l.modules
  -- a name's record
  pub heads : (j : ℕ) → j < l.names → name_head A j + 1 + words_of (pay_of (get_or W (name_head A j) 0)) ≤ length W
  -- a module's map
  pub below : (m : ℕ) → m < l.modules → module_map A m < l.maps
  -- and its record
  pub mapped : (m : ℕ) → m < l.modules → get_or (maps_of W A l.maps) (module_map A m) no_map ≡ map_at W (module_head A m)
  -- a map's root is its first module
  pub rooted : (k : ℕ) → k < l.maps → map_root A k < l.modules
  pub inside : (k : ℕ) → k < l.maps → module_map A (map_root A k) ≡ k
  pub first : (m : ℕ) → m < l.modules → map_root A (module_map A m) ≤ m
  -- a crate's own map
  pub own : (c : ℕ) → c < l.crates → own_map A c ≡ own_of c (maps_of W A l.maps)
  pub owned : (c : ℕ) → c < l.crates → 0 < own_map A c
  -- where a module's scope records stand, and a crate's dependencies, imports and externs
  pub index : Index W l A

-- words that were accepted, with the layout and the tables that the check left
pub record Reads (W A : List ℕ) (l : Layout) : Type 0 where
  pub same : verdict W ≡ accept (snap_of W A l)
  pub tables : Tables W A l

-- the definition of the check: a work area that is too small, or the verdict
unfoldable pub check_of : ℕ → List ℕ → Verdict
check_of n W = elim (ltb n area_limit) [ true ↦ refuse area_refusal 0 | false ↦ verdict W ]

-- an answer as a verdict; A is the area that it leaves
abbrev pub outcome : List ℕ → List ℕ → Checked → Verdict
outcome W A (Err e) = refuse (refusal_number e.why) e.at
outcome W A (Ok l) = accept (snap_of W A l)

abbrev pub Readable : List ℕ → List ℕ → Checked → Type 0
Readable W A (Err e) = Unit
Readable W A (Ok l) = Tables W A l

-- the answer is the verdict's, and accepted words can be read by the tables
-- (a clause and no type: the area is written between, and a value with this fact would have to be made anew after each write)
pub record Judged (W A : List ℕ) (r : Checked) : Type 0 where
  pub same : outcome W A r ≡ verdict W
  pub tables : Readable W A r

-- the answer is the definition's; accepted words can be read by the tables; the area past its first 16,384 words stays, all of
-- it where it is too small. What a refusal leaves in those first words is not fixed.
pub record Checks (W A₀ A : List ℕ) (r : Checked) : Type 0 where
  pub same : outcome W A r ≡ check_of (length A₀) W
  pub tables : Readable W A r
  pub rest : drop area_limit A ≡ drop area_limit A₀
  pub untouched : length A₀ < area_limit → A ≡ A₀
