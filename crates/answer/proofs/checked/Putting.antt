-- Laws of the line of a question on checked words.
use Prim.Native.Nat.{ℕ, zero, suc, ◌≤◌}
use mathlib.Core.Path.{◌≡◌, refl, sym, ◌∙◌, ap, ap₂, subst}
use mathlib.Core.List.{List, ◌++◌}
use Rattle.snapshot.specs.Limits.{area_limit}
use Rattle.snapshot.specs.Records.{Snapshot}
use Rattle.snapshot.specs.Layouts.{snap_of}
use Rattle.snapshot.specs.declared.layout.Layout.{Layout}
use Rattle.check_rules.specs.Verdict.{Verdict, refuse, verdict}
use Rattle.accept.specs.Post.{Judged, Checked}
use Rattle.std.specs.Prelude.{Ok, Err}
use Rattle.snapshot.specs.Refusals.{refusal_number}
use Rattle.accept.specs.declared.check.Refused.{Refused}
use Rattle.printing.specs.Output.{Put}
use Rattle.printing.proofs.Laws.{put_as}
use Rattle.find_path_spec.specs.declared.Question.{Question}
use Rattle.find_path_spec.specs.declared.Report.{Report}
use Rattle.find_path_spec.specs.Report.{call_fault, refused, report_by, report_unless, report_of}
use Rattle.find_path_spec.specs.Line.{bytes_of, line_in, line_of, snapshot_of}
use Rattle.find_path_spec.proofs.laws.Reports.{report_bounded}
use Rattle.answer.specs.checked.Questioned.{Questioned}
use Rattle.answer.specs.checked.Lines.{LineOn}

numbered : (r : Report) (k : ℕ) → r ≡ refused k → r ≡ refused r.number
unfolding refused
numbered r k e = e ∙ ap refused (sym (ap (λ (x : Report). x.number) e))

module _ (W : List ℕ) (q : Question) where
  by_verdict : (v : Verdict) (n place : ℕ) → v ≡ refuse n place → report_by q.query q.fuel v ≡ refused n
  unfolding report_by
  by_verdict v n place e = ap (report_by q.query q.fuel) e

  by_call : (m n place : ℕ) → verdict W ≡ refuse n place
      → report_unless W q.query q.fuel m ≡ refused (report_unless W q.query q.fuel m).number
  unfolding report_unless
  by_call zero n place e = numbered _ n (by_verdict (verdict W) n place e)
  by_call (suc m) n place e = numbered _ (suc m) refl

  -- a refused snapshot refuses each question
  pub refusal_only : (n place : ℕ) → verdict W ≡ refuse n place → report_of W area_limit q ≡ refused (report_of W area_limit q).number
  unfolding report_of
  refusal_only n place e = by_call (call_fault area_limit q.query q.fuel) n place e

  module _ (A : List ℕ) (c : Checked) (r : Report) (a : Questioned W q c A r) where
    pub few_names : r.count ≤ 16
    few_names = rw a.report (report_bounded W area_limit q).few

    -- the report of a refused snapshot has its number alone; an accepted one is that of the layout
    pub report_refused : (f : Refused) → c ≡ Err f → refused r.number ≡ report_of W area_limit q
    report_refused f e =
        let v : verdict W ≡ refuse (refusal_number f.why) f.at = sym (subst (λ (x : Checked). Judged W A x) e a.checked).same in
        ap (λ (x : Report). refused x.number) a.report ∙ sym (refusal_only (refusal_number f.why) f.at v)

    pub snapshot_read : (l : Layout) → c ≡ Ok l → snap_of W A l ≡ snapshot_of (verdict W)
    unfolding snapshot_of
    snapshot_read l e = ap snapshot_of (subst (λ (x : Checked). Judged W A x) e a.checked).same

    module _ (old new : List ℕ) (t : ℕ) where
      pub line_refused : (f : Refused) → c ≡ Err f
          → ((s : Snapshot) (from : ℕ) → Put old 0 (line_in s from (refused r.number) ++ bytes_of "\n") new t) → LineOn W q c A old new t
      unfolding line_of
      line_refused f e p =
          let s = snapshot_of (verdict W) in
          record {
            line = put_as (ap (λ x. line_in s q.query.from.0 x ++ bytes_of "\n") (report_refused f e)) (p s q.query.from.0);
            checked = a.checked;
          }

      pub line_accepted : (l : Layout) → c ≡ Ok l → Put old 0 (line_in (snap_of W A l) q.query.from.0 r ++ bytes_of "\n") new t
          → LineOn W q c A old new t
      unfolding line_of
      line_accepted l e p =
          record {
            line = put_as (ap₂ (λ x y. line_in x q.query.from.0 y ++ bytes_of "\n") (snapshot_read l e) a.report) p;
            checked = a.checked;
          }
