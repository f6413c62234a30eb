-- Every line stays: a question of either part, put with its numbers moved on the joined words, has the line that it has on its part.
use Prim.Native.Nat.{ℕ, zero, suc}
use mathlib.Core.Path.{◌≡◌, refl, sym, ◌∙◌, ap}
use mathlib.Core.List.{List}
use mathlib.Core.Bool.{false, ◌&&◌}
use borrow.Author.Tests.{ltb-true}
use lib.Dec.{ltb}
use lib.ListN.{length}
use Rattle.snapshot.specs.Limits.{area_limit}
use Rattle.snapshot.specs.Refusals.{unknown_refusal}
use Rattle.snapshot.specs.Records.{Snapshot}
use Rattle.check_rules.specs.Verdict.{accept, verdict}
use Rattle.accept.proofs.Accepted.{by_test}
use Rattle.accept.proofs.Bools.{and_two}
use Rattle.accept.proofs.Valid.{accepted_valid}
use Rattle.find_path_spec.specs.declared.Query.{Query}
use Rattle.find_path_spec.specs.declared.Question.{Question}
use Rattle.find_path_spec.specs.Report.{call_fault, question_fault, refused, answer_unless, report_by, report_unless, report_of}
use Rattle.find_path_spec.specs.Line.{line_parts, line_in, snapshot_of, line_of}
use Rattle.join_rules.specs.Joined.{Numbers, first_numbers, second_numbers, question_to, joined, joined_as, join_of}
use Rattle.join_rules.proofs.Joins.{join_accepted}
use Rattle.join_rules.proofs.Wholes.{accepted_whole}
use Rattle.embedding.specs.Embeds.{Embeds}
use Rattle.embedding.specs.Kept.{Answered, Kept}
use Rattle.embedding.proofs.Questions.{query_to}
use Rattle.embedding.proofs.Lines.{answer_line}
use Rattle.embedding.proofs.Parts.{first_embedded, second_embedded}

-- the line of a refusal speaks of no snapshot
refused_line : (s u : Snapshot) (m k n : ℕ) → line_in u k (refused n) ≡ line_in s m (refused n)
unfolding line_in line_parts refused
refused_line s u m k n = refl

module _ (W Y : List ℕ) (s u : Snapshot) (a : verdict W ≡ accept s) (b : verdict Y ≡ accept u) (e : Numbers) (em : Embeds e s u) where
  module _ (q : Query) (fuel : ℕ) where
    unknown : ltb q.definition.0 (length s.definitions) && ltb q.from.0 (length s.modules) ≡ false
        → (report_by q fuel (verdict W)).number ≡ unknown_refusal
    unfolding question_fault report_by answer_unless refused
    unknown t =
        let z : question_fault s q ≡ unknown_refusal = rw (question_fault, t) in
        ap (λ x. (report_by q fuel x).number) a ∙ ap (λ k. (answer_unless s q fuel k).number) z

    by_fault : (k : ℕ) → ((report_unless W q fuel k).number ≡ unknown_refusal → ⊥)
        → line_in (snapshot_of (verdict Y)) (e.modules q.from.0) (report_unless Y (query_to e q) fuel k)
        ≡ line_in (snapshot_of (verdict W)) q.from.0 (report_unless W q fuel k)
    unfolding report_unless report_by snapshot_of
    by_fault zero h =
        by_test (ltb q.definition.0 (length s.definitions) && ltb q.from.0 (length s.modules))
        (λ t.
        let l = and_two (ltb q.definition.0 (length s.definitions)) (ltb q.from.0 (length s.modules)) t in
        ap (λ x. line_in (snapshot_of x) (e.modules q.from.0) (report_by (query_to e q) fuel x)) b
        ∙ answer_line e s u em (accepted_valid W s a) (accepted_valid Y u b) q (ltb-true q.from.0 (length s.modules) l.1)
        (ltb-true q.definition.0 (length s.definitions) l.0) fuel
        ∙ ap (λ x. line_in (snapshot_of x) q.from.0 (report_by q fuel x)) (sym a))
        (λ t. absurd (h (unknown t)))
    by_fault (suc k) h = refused_line (snapshot_of (verdict W)) (snapshot_of (verdict Y)) q.from.0 (e.modules q.from.0) (suc k)

  -- on the words of a snapshot in which it is embedded
  pub line_stays : (q : Question) → Answered W q → line_of Y (question_to e q) ≡ line_of W q
  unfolding line_of report_of call_fault
  line_stays q h = by_fault q.query q.fuel (call_fault area_limit q.query q.fuel) h

-- Every line of both inputs stays on the words that a call answers.
pub lines_kept : (area room : ℕ) (W X Y : List ℕ) → join_of area W X room ≡ joined_as Y → Kept W X Y
lines_kept area room W X Y e =
    let j = join_accepted area room W X Y e in
    let s = j.first in
    let t = j.second in
    let v = accepted_valid W s j.one in
    let w = accepted_valid X t j.two in
    let p = accepted_whole W s j.one in
    let q = accepted_whole X t j.two in
    record {
      first = s;
      second = t;
      one = j.one;
      two = j.two;
      same = j.same;
      firsts = line_stays W Y s (joined s t) j.one j.same first_numbers (first_embedded s t v w p q);
      seconds = line_stays X Y t (joined s t) j.two j.same (second_numbers s t) (second_embedded s t v w p q);
    }
