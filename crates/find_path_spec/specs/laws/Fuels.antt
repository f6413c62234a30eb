-- What two fuels have to do with the search without a tank, and what the reports of one question have to do with each other.
use Rattle.std.specs.Prelude.{◌≡◌, List, ◌⊎◌, ◌↔◌, ℕ, ◌+◌, min, ◌≤◌, ◌<◌, length, get_or}
use Rattle.snapshot.specs.Limits.{module_limit, name_limit, path_limit, fuel_limit}
use Rattle.snapshot.specs.Refusals.{largest_refusal}
use Rattle.snapshot.specs.Records.{Snapshot}
use Rattle.check_rules.specs.Verdict.{accept, verdict}
use Rattle.find_path_spec.specs.declared.Query.{Query}
use Rattle.find_path_spec.specs.declared.Report.{Report}
use Rattle.find_path_choice.specs.Choices.{step_limit}
use Rattle.find_path_spec.specs.Meters.{Spot}
use Rattle.find_path_spec.specs.Charged.{Out}
use Rattle.find_path_spec.specs.Report.{outcome_of, searched_freely, report_at}

abbrev pub IsRefused : Report → Type 0
IsRefused r = r.outcome ≡ 2

-- a path was found, misleading or not
abbrev pub HasPath : Report → Type 0
HasPath r = (r.outcome ≡ 0) ⊎ (r.outcome ≡ 3)

-- bounds that hold of every report
pub record Bounded (fuel : ℕ) (r : Report) : Type 0 where
  pub few : r.count ≤ 16
  pub long : length r.names ≡ 16
  -- the names past the count are zero
  pub rest : (i : ℕ) → r.count ≤ i → get_or r.names i 0 ≡ 0
  pub charges : r.charges ≤ fuel
  pub flagged : r.empty ≤ 1
  -- a step for each name, and one more after a keyword; the steps past them are zero
  pub each : r.count ≤ r.steps
  pub once : r.steps ≤ r.count + 1
  pub wide : length r.route ≡ 17
  pub past : (i : ℕ) → r.steps ≤ i → get_or r.route i 0 ≡ 0
  -- nothing is told of a first empty tank where none was
  pub untold : r.empty ≡ 0 → (r.left ≡ 0) × (r.sought ≡ 0)

-- the names of the path are numbers of the snapshot's names
abbrev pub NamesKnown : Snapshot → Report → Type 0
NamesKnown s r = (i : ℕ) → i < r.count → get_or r.names i 0 < length s.names

-- bounds of the numbers of every report, whatever the words and the fuel
pub record Small (r : Report) : Type 0 where
  pub outcome : r.outcome ≤ 3
  pub number : r.number ≤ largest_refusal
  pub kind : r.kind ≤ 4
  pub names : (i : ℕ) → get_or r.names i 0 < name_limit
  pub charges : r.charges ≤ fuel_limit
  pub left : r.left ≤ path_limit
  pub sought : r.sought ≤ module_limit
  pub route : (i : ℕ) → get_or r.route i 0 < step_limit
  pub steps : r.steps ≤ 17

-- the report has the path of the search without a tank, or none where it has none; it says that this path misleads exactly where it does
pub record Shows (s : Snapshot) (q : Query) (free : Out ℕ) (r : Report) : Type 0 where
  pub outcome : r.outcome ≡ outcome_of s q free.choice
  pub kind : r.kind ≡ free.choice.kind
  pub names : r.names ≡ free.choice.names
  pub count : r.count ≡ free.choice.count
  pub route : r.route ≡ free.choice.route
  pub steps : r.steps ≡ free.choice.steps

abbrev pub no_spot : Spot
no_spot = record { left = 0; sought = 0 }

-- what one report tells of the search without a tank
pub record Tells (s : Snapshot) (q : Query) (fuel : ℕ) (free : Out ℕ) (r : Report) : Type 0 where
  -- it counts the smaller of its fuel and the count
  pub charges : r.charges ≡ min fuel free.meter
  -- it says empty exactly when its fuel is below the count
  pub empty : (r.empty ≡ 1) ↔ (fuel < free.meter)
  -- where it does not say empty, its answer is that of the search without a tank
  pub answer : (r.empty ≡ 1 → ⊥) → Shows s q free r

-- the search without a tank that lists its charges finds the same, and has as many as the count says
pub record SameSearch (free : Out ℕ) (listing : Out (List Spot)) : Type 0 where
  pub choice : listing.choice ≡ free.choice
  pub count : length listing.meter ≡ free.meter

-- A report that says empty tells of the charge that the fuel had no more for: the one with that number, from 0, of the search without a tank.
pub record TellsFirst (fuel : ℕ) (free : Out (List Spot)) (r : Report) : Type 0 where
  pub left : r.empty ≡ 1 → (get_or free.meter fuel no_spot).left ≡ r.left
  pub sought : r.empty ≡ 1 → (get_or free.meter fuel no_spot).sought ≡ r.sought

-- The two reports against the search without a tank, on the snapshot that the words were accepted as.
pub record Compared (words : List ℕ) (area : ℕ) (q : Query) (F G : ℕ) : Type 0 where
  pub snapshot : Snapshot
  pub accepted : verdict words ≡ accept snapshot
  -- the reports are equal in every field exactly when the count is at most the smaller fuel
  pub equal : (report_at words area q F ≡ report_at words area q G) ↔ ((searched_freely snapshot q).meter ≤ F)
  pub smaller : Tells snapshot q F (searched_freely snapshot q) (report_at words area q F)
  pub larger : Tells snapshot q G (searched_freely snapshot q) (report_at words area q G)

-- The reports of one question with two fuels compared.
abbrev pub FuelsCompared : Type 0
FuelsCompared =
    (words : List ℕ) (area : ℕ) (q : Query) (F G : ℕ) → F < G → G ≤ fuel_limit
    → (IsRefused (report_at words area q F) → ⊥) → (IsRefused (report_at words area q G) → ⊥)
    → Compared words area q F G
