-- What options bit 64 does: the report with it beside the report without it.
use Rattle.std.specs.Prelude.{ℕ, ◌+◌, ◌<◌, ◌≡◌, List, ◌⊎◌, ◌↔◌}
use Rattle.std.specs.Prelude.{Some}
use Rattle.snapshot.specs.Records.{Snapshot}
use Rattle.check_rules.specs.Verdict.{accept, verdict}
use Rattle.hir_def.specs.Items.{types, builtin_kind, definition_of}
use Rattle.read_back.specs.readings.Reads.{reads_to}
use Rattle.find_path_spec.specs.declared.Query.{Query}
use Rattle.find_path_spec.specs.declared.Report.{Report}
use Rattle.find_path_spec.specs.Report.{report_at}
use Rattle.find_path_spec.specs.laws.Routes.{asked_item, path_names}

-- the question with the bit, of one without it
abbrev pub with_reading : Query → Query
with_reading q =
    record { ns = q.ns; definition = q.definition; from = q.from; prefix = q.prefix; options = q.options + 64; limit = q.limit }

-- The path is for a builtin in types, or means the item of the question in the viewing module.
abbrev pub MeansItem : Snapshot → Query → Report → Type 0
MeansItem s q r =
    ((q.ns ≡ types) × ((definition_of s q.definition.0).kind ≡ builtin_kind))
    ⊎ (reads_to s q.from.0 q.ns r.kind (path_names r) ≡ Some (asked_item s q))

-- the report with another outcome
abbrev pub with_outcome : ℕ → Report → Report
with_outcome n r =
    record {
      outcome = n;
      number = r.number;
      kind = r.kind;
      names = r.names;
      count = r.count;
      charges = r.charges;
      empty = r.empty;
      left = r.left;
      sought = r.sought;
      route = r.route;
      steps = r.steps;
    }

-- r is the report without the bit, t the one with it, on the snapshot that the words were accepted as
pub record ReadAs (s : Snapshot) (q : Query) (r t : Report) : Type 0 where
  -- found where it is found without the bit and means the item, misleading where it is found and does not
  pub found : (t.outcome ≡ 0) ↔ ((r.outcome ≡ 0) × MeansItem s q r)
  pub misleads : (t.outcome ≡ 3) ↔ ((r.outcome ≡ 0) × (MeansItem s q r → ⊥))
  -- none and refused as they are without it
  pub none : (t.outcome ≡ 1) ↔ (r.outcome ≡ 1)
  pub refused : (t.outcome ≡ 2) ↔ (r.outcome ≡ 2)
  -- every other field is the same
  pub same : t ≡ with_outcome t.outcome r

-- The options of a question without the bit are below 64.
abbrev pub ReadBack : Type 0
ReadBack =
    (words : List ℕ) (area : ℕ) (q : Query) (fuel : ℕ) (s : Snapshot) → verdict words ≡ accept s → q.options < 64
    → ReadAs s q (report_at words area q fuel) (report_at words area (with_reading q) fuel)
