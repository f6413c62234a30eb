-- What the reports of one question have to do with each other when it is put with two fuels.
use Rattle.std.specs.Prelude.{ℕ, ◌≤◌, ◌<◌, ◌≡◌, List, ◌↔◌}
use Rattle.snapshot.specs.Records.{Snapshot}
use Rattle.check_rules.specs.Verdict.{accept, verdict}
use Rattle.find_path_spec.specs.declared.Query.{Query}
use Rattle.find_path_spec.specs.declared.Report.{Report}
use Rattle.find_path_spec.specs.Report.{searched_freely}
use Rattle.find_path_spec.specs.laws.Fuels.{IsRefused, Tells}
use Rattle.answer.specs.Answers.{Answers}
use Rattle.answer.specs.declared.twice.Reports.{Reports}

-- the two reports against the search without a tank, on the snapshot that the words were accepted as
pub record FuelsTold (W : List ℕ) (q : Query) (F G : ℕ) (r s : Report) : Type 0 where
  pub snapshot : Snapshot
  pub accepted : verdict W ≡ accept snapshot
  -- equal in every field exactly when the count of charges is at most the smaller fuel
  pub equal : (r ≡ s) ↔ ((searched_freely snapshot q).meter ≤ F)
  pub smaller : Tells snapshot q F (searched_freely snapshot q) r
  pub larger : Tells snapshot q G (searched_freely snapshot q) s

pub record AnswersTwice (W A₀ B₀ : List ℕ) (q : Query) (F G : ℕ) (A B : List ℕ) (r : Reports) : Type 0 where
  pub first : Answers W A₀ (record { query = q; fuel = F }) A r.first
  pub second : Answers W B₀ (record { query = q; fuel = G }) B r.second
  pub told : F < G → (IsRefused r.first → ⊥) → (IsRefused r.second → ⊥) → FuelsTold W q F G r.first r.second
