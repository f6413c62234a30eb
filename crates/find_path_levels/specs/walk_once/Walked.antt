-- The walk past no visited module, in the work area.
use Rattle.std.specs.Prelude.{ℕ, ◌≤◌, ◌≡◌, List, false, get_or}
use Rattle.snapshot.specs.Limits.{module_limit}
use Rattle.snapshot.specs.Records.{Snapshot}
use Rattle.find_path_spec.specs.Walk.{find_local_import_locations}
use Rattle.find_path_levels.specs.Levels.{run_at}

-- the first word of its modules, the word with their number, and the first word after that
abbrev pub walk_at : ℕ
walk_at = 7616

abbrev pub walk_count : ℕ
walk_count = 8128

abbrev pub walk_end : ℕ
walk_end = 8129

pub record Walked (s : Snapshot) (from : ℕ) (A : List ℕ) : Type 0 where
  pub same : run_at A walk_at (get_or A walk_count 0) ≡ find_local_import_locations s from (λ _. false)
  pub few : get_or A walk_count 0 ≤ module_limit
