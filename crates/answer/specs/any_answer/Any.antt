-- Whether any path names an item, put to words that nobody checked yet.
use Rattle.std.specs.Prelude.{ℕ, zero, suc, ◌≡◌, List, [], ◌∷◌, length, get_or, replicate, Result, Ok, Err}
use Rattle.snapshot.specs.Limits.{path_limit}
use Rattle.snapshot.specs.Refusals.{refusal_number}
use Rattle.snapshot.specs.declared.refusal.Refusal.{Refusal}
use Rattle.snapshot.specs.Records.{Snapshot}
use Rattle.snapshot.specs.PathKinds.{path_kind_number}
use Rattle.check_rules.specs.Verdict.{Verdict, refuse, accept, verdict}
use Rattle.hir_def.specs.Items.{item_of}
use Rattle.nameable.specs.Paths.{names_in, names_of, route_of}
use Rattle.nameable.specs.Breadth.{AnyPath, found, longer, nowhere, any_path}
use Rattle.find_path_spec.specs.declared.Query.{Query}
use Rattle.find_path_spec.specs.Report.{call_fault, question_fault}
use Rattle.told_paths.specs.Tells.{kind_of, supers_of, padded}
use Rattle.answer.specs.Answers.{area_after}
use Rattle.answer.specs.declared.any_answer.AnyReport.{AnyReport}

-- an outcome without a path
unfoldable pub any_without : ℕ → ℕ → AnyReport
any_without o n = record { outcome = o; number = n; kind = 0; supers = 0; names = replicate 16 0; count = 0; route = replicate 16 0 }

unfoldable pub any_refused : ℕ → AnyReport
any_refused n = any_without 2 n

-- an answer, or that of a refusal
abbrev pub told : Result AnyReport Refusal → AnyReport
told (Ok r) = r
told (Err k) = any_refused (refusal_number k)

-- 0 a path, with the records by which it is read in the module `from`, its last name in the namespace; 1 there is none; 3 there are paths, and each
-- has more than sixteen names
unfoldable pub any_reported : Snapshot → ℕ → ℕ → AnyPath → AnyReport
any_reported s from ns (found p) =
    record {
      outcome = 0;
      number = 0;
      kind = path_kind_number (kind_of p);
      supers = supers_of p;
      names = padded (names_of p);
      count = names_in p;
      route = padded (route_of s from ns p);
    }
any_reported s from ns nowhere = any_without 1 0
any_reported s from ns longer = any_without 3 0

-- the question, of which no prefix, options, fuel and limit are asked for: they are in range
abbrev pub any_query : ℕ → ℕ → ℕ → Query
any_query ns d m = record { ns = ns; definition = record { 0 = d }; from = record { 0 = m }; prefix = 0; options = 0; limit = path_limit }

unfoldable pub any_unless : Snapshot → Query → ℕ → AnyReport
any_unless s q zero = any_reported s q.from.0 q.ns (any_path s q.from.0 (item_of s q.ns q.definition.0))
any_unless s q (suc n) = any_refused (suc n)

unfoldable pub any_by : Query → Verdict → AnyReport
any_by q (refuse n place) = any_refused n
any_by q (accept s) = any_unless s q (question_fault s q)

unfoldable pub any_after : List ℕ → Query → ℕ → AnyReport
any_after words q zero = any_by q (verdict words)
any_after words q (suc n) = any_refused (suc n)

-- The answer on the words of a snapshot, with a work area of so many words. The refusals are a question's, in its order: 20, 22, 30, then
-- record by record, then 23, 24.
unfoldable pub any_report : List ℕ → ℕ → Query → AnyReport
any_report words area q = any_after words q (call_fault area q 0)

-- W are the words, A₀ the work area before the call, A the one after it
pub record AnyAnswers (W A₀ : List ℕ) (ns d m : ℕ) (A : List ℕ) (r : AnyReport) : Type 0 where
  pub report : r ≡ any_report W (length A₀) (any_query ns d m)
  pub area : A ≡ area_after A₀

-- namespace, definition and module as words
abbrev pub question_of : List ℕ → Query
question_of Q = any_query (get_or Q 0 0) (get_or Q 1 0) (get_or Q 2 0)

-- the same with the question Q and the answer as numbers: h are the outcome, the kind, how many times `super` and how many names
pub record AnyIn (W A₀ Q A h names route : List ℕ) (r : ℕ) : Type 0 where
  pub number : r ≡ (any_report W (length A₀) (question_of Q)).number
  pub front : h ≡ (any_report W (length A₀) (question_of Q)).outcome ∷ (any_report W (length A₀) (question_of Q)).kind
      ∷ (any_report W (length A₀) (question_of Q)).supers ∷ (any_report W (length A₀) (question_of Q)).count ∷ []
  pub told : names ≡ (any_report W (length A₀) (question_of Q)).names
  pub places : route ≡ (any_report W (length A₀) (question_of Q)).route
  pub area : A ≡ area_after A₀
