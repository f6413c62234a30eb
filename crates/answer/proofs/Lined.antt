-- Laws of the entry point that prints a line.
use Prim.Native.Nat.{ℕ, ◌≤◌, ◌<◌}
use mathlib.Core.Path.{◌≡◌, refl, sym, ◌∙◌, ap}
use mathlib.Core.List.{List, ◌++◌}
use native.Mathlib.Omega.{arith}
use borrow.Author.Tests.{lt-ltb, le-ltb}
use lib.ListN.{length, drop}
use Rattle.snapshot.specs.Limits.{area_limit, line_limit}
use Rattle.snapshot.specs.Refusals.{area_refusal}
use Rattle.snapshot.specs.Records.{Snapshot}
use Rattle.check_rules.specs.Verdict.{verdict}
use Rattle.printing.specs.Output.{Put}
use Rattle.printing.proofs.Laws.{put_as, put_whole}
use Rattle.find_path_spec.specs.declared.Question.{Question}
use Rattle.find_path_spec.specs.declared.Report.{Report}
use Rattle.find_path_spec.specs.Report.{refused, report_of}
use Rattle.find_path_spec.specs.Line.{bytes_of, line_in, line_of, snapshot_of}
use Rattle.answer.specs.Answers.{zeros, area_after, Answers}
use Rattle.answer.specs.Lined.{ended_line, Lined}
use Rattle.answer.proofs.Areas.{answers_small, answers_large}

module _ (W A : List ℕ) (q : Question) (old : List ℕ) where
  pub lined_none : (B : List ℕ) → length old < line_limit → B ≡ area_after A → Lined W A q old B old 0
  unfolding ended_line
  lined_none B h e =
      record {
        count = sym (rw (ended_line, lt-ltb _ _ h));
        bytes = sym (rw (ended_line, lt-ltb _ _ h));
        area = e;
      }

  module _ (room : line_limit ≤ length old) (new : List ℕ) (n : ℕ) where
    -- the line of a report that is the answer's
    lined : (B : List ℕ) (r : Report) → Answers W A q B r → Put old 0 (line_in (snapshot_of (verdict W)) q.query.from.0 r ++ bytes_of "\n") new n
        → Lined W A q old B new n
    unfolding ended_line
    lined B r a p =
        let e : line_in (snapshot_of (verdict W)) q.query.from.0 r ++ bytes_of "\n" ≡ ended_line W (length A) q (length old) =
        ap (λ x. line_in (snapshot_of (verdict W)) q.query.from.0 x ++ bytes_of "\n") a.report ∙ sym (rw (ended_line, le-ltb _ _ room)) in
        let t = put_as e p in
        let c = t.next in
        record {
          count = omega (arith, c);
          bytes = put_whole t;
          area = a.area;
        }

    pub lined_small : length A < area_limit → ((s : Snapshot) (from : ℕ) → Put old 0 (line_in s from (refused area_refusal) ++ bytes_of "\n") new n)
        → Lined W A q old A new n
    lined_small h p = lined A (refused area_refusal) (answers_small W A q (refused area_refusal) h refl)
        (p (snapshot_of (verdict W)) q.query.from.0)

    pub lined_large : (B : List ℕ) → area_limit ≤ length A → B ≡ zeros area_limit → Put old 0 (line_of W q ++ bytes_of "\n") new n
        → Lined W A q old (B ++ drop area_limit A) new n
    unfolding line_of
    lined_large B h z p = lined (B ++ drop area_limit A) (report_of W area_limit q) (answers_large W A q (report_of W area_limit q) B h refl z) p
