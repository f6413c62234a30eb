-- The report of a question.
use Rattle.std.specs.Prelude.{ℕ, zero, suc, Bool, true, false, not, ◌&&◌, ◌||◌, List, [], length, take, replicate, ◌==◌, nat_lt}
use Rattle.snapshot.specs.Limits.{area_limit, fuel_limit, path_limit, namespace_limit, prefix_limit, options_limit}
use Rattle.snapshot.specs.Refusals.{area_refusal, fuel_refusal, field_refusal, unknown_refusal, macro_refusal, limit_refusal}
use Rattle.snapshot.specs.Records.{Snapshot}
use Rattle.check_rules.specs.Verdict.{Verdict, refuse, accept, verdict}
use Rattle.hir_def.specs.Items.{macros, macro_kind, definition_of, item_of}
use Rattle.read_back.specs.readings.Reads.{reads_back}
use Rattle.find_path_choice.specs.Choices.{Choice}
use Rattle.find_path_spec.specs.declared.Tank.{Tank}
use Rattle.find_path_spec.specs.declared.Query.{Query}
use Rattle.find_path_spec.specs.declared.Question.{Question}
use Rattle.find_path_spec.specs.declared.Report.{Report}
use Rattle.find_path_spec.specs.Meters.{Spot, from_tank, filled, counted, listed}
use Rattle.find_path_spec.specs.Rules.{bit}
use Rattle.find_path_spec.specs.Charged.{Out}
use Rattle.find_path_spec.specs.Search.{is_builtin_type, find_path}

-- the first of the caller's faults that needs no snapshot: 20, 21, 22, 46, or 0 for none
unfoldable pub call_fault : ℕ → Query → ℕ → ℕ
call_fault area q fuel =
    elim (nat_lt area area_limit) [
      | true ↦ area_refusal
      | false ↦ elim (nat_lt fuel_limit fuel) [
        | true ↦ fuel_refusal
        | false ↦ elim (nat_lt namespace_limit q.ns || (nat_lt prefix_limit q.prefix || nat_lt options_limit q.options)) [
          | true ↦ field_refusal
          | false ↦ elim (q.limit == 0 || nat_lt path_limit q.limit) [ true ↦ limit_refusal | false ↦ 0 ]
        ]
      ]
    ]

-- the first of those that need one: 23 no such definition or module, 24 a macro that is none, or 0 for none
unfoldable pub question_fault : Snapshot → Query → ℕ
question_fault s q =
    elim (nat_lt q.definition.0 (length s.definitions) && nat_lt q.from.0 (length s.modules)) [
      | true ↦ elim (q.ns == macros && not ((definition_of s q.definition.0).kind == macro_kind)) [ true ↦ macro_refusal | false ↦ 0 ]
      | false ↦ unknown_refusal
    ]

-- a refusal: all else is zero
unfoldable pub refused : ℕ → Report
refused n =
    record {
      outcome = 2;
      number = n;
      kind = 0;
      names = replicate 16 0;
      count = 0;
      charges = 0;
      empty = 0;
      left = 0;
      sought = 0;
      route = replicate 17 0;
      steps = 0;
    }

unfoldable pub flag : Bool → ℕ
flag true = 1
flag false = 0

-- A path that was found misleads where options bit 64 has it read, and it does not read back to the item from the viewing module. A builtin
-- in types is not read.
unfoldable pub misleads : Snapshot → Query → Choice → Bool
misleads s q c =
    bit q.options 64
    && (c.found && not (is_builtin_type s q || reads_back s q.from.0 (item_of s q.ns q.definition.0) c.kind (take c.count c.names)))

-- 0 found, 1 none, 3 found and misleading
unfoldable pub outcome_by : Bool → Bool → ℕ
outcome_by true found = 3
outcome_by false found = flag (not found)

abbrev pub outcome_of : Snapshot → Query → Choice → ℕ
outcome_of s q c = outcome_by (misleads s q c) c.found

-- what a search found and how, what it was charged, and whether, and where first, it found the tank empty
unfoldable pub reported : Snapshot → Query → Out Tank → Report
reported s q o =
    record {
      outcome = outcome_of s q o.choice;
      number = 0;
      kind = o.choice.kind;
      names = o.choice.names;
      count = o.choice.count;
      charges = o.meter.spent;
      empty = flag o.meter.empty;
      left = o.meter.left;
      sought = o.meter.sought;
      route = o.choice.route;
      steps = o.choice.steps;
    }

-- The search with a tank: the rules at the tank, which holds the fuel at first.
unfoldable pub searched : Snapshot → Query → ℕ → Out Tank
searched s q fuel = find_path Tank from_tank s q (filled fuel)

-- The search without a tank: the rules at the count, which is 0 at first. It knows no fuel.
unfoldable pub searched_freely : Snapshot → Query → Out ℕ
searched_freely s q = find_path ℕ counted s q 0

-- The same, with the list of its charges.
unfoldable pub searched_listing : Snapshot → Query → Out (List Spot)
searched_listing s q = find_path (List Spot) listed s q []

unfoldable pub answer_unless : Snapshot → Query → ℕ → ℕ → Report
answer_unless s q fuel zero = reported s q (searched s q fuel)
answer_unless s q fuel (suc n) = refused (suc n)

unfoldable pub report_by : Query → ℕ → Verdict → Report
report_by q fuel (refuse n place) = refused n
report_by q fuel (accept s) = answer_unless s q fuel (question_fault s q)

unfoldable pub report_unless : List ℕ → Query → ℕ → ℕ → Report
report_unless words q fuel zero = report_by q fuel (verdict words)
report_unless words q fuel (suc n) = refused (suc n)

-- The report of a question on the words of a snapshot, with a work area of so many words. The refusals come in the
-- order 20, 21, 22, 46, 30, then record by record, then 23, 24.
unfoldable pub report_of : List ℕ → ℕ → Question → Report
report_of words area q = report_unless words q.query q.fuel (call_fault area q.query q.fuel)

-- the question with that fuel, on those words
abbrev pub report_at : List ℕ → ℕ → Query → ℕ → Report
report_at words area q fuel = report_of words area (record { query = q; fuel = fuel })
