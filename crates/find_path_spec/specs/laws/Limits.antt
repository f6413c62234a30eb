-- What two limits have to do with each other.
use Rattle.std.specs.Prelude.{◌≡◌, List, ℕ, ◌≤◌}
use Rattle.find_path_spec.specs.declared.Query.{Query}
use Rattle.find_path_spec.specs.declared.Report.{Report}
use Rattle.find_path_spec.specs.laws.Fuels.{IsRefused, HasPath}
use Rattle.find_path_spec.specs.Report.{report_at}

-- the question with another limit
abbrev pub with_limit : Query → ℕ → Query
with_limit q n =
    record { ns = q.ns; definition = q.definition; from = q.from; prefix = q.prefix; options = q.options; limit = n }

-- a report that is no refusal and does not say empty
pub record Whole (r : Report) : Type 0 where
  pub answered : IsRefused r → ⊥
  pub full : r.empty ≡ 1 → ⊥

-- Of two questions that differ in the limit, and perhaps in the fuel, with no empty tank: an item that is found under the smaller limit
-- is found under the larger one, perhaps by another path; a misleading path counts as found.
abbrev pub LimitsCompared : Type 0
LimitsCompared =
    (words : List ℕ) (area : ℕ) (q : Query) (l m F G : ℕ) → l ≤ m
    → Whole (report_at words area (with_limit q l) F) → Whole (report_at words area (with_limit q m) G)
    → HasPath (report_at words area (with_limit q l) F) → HasPath (report_at words area (with_limit q m) G)
