-- Laws of the line with its route.
use Prim.Native.Nat.{ℕ, ◌+◌, ◌/◌, ◌%◌, ◌≤◌, ◌<◌}
use mathlib.Core.Path.{◌≡◌, refl, sym, ◌∙◌, ap, ap₂}
use mathlib.Core.List.{List, [], ◌∷◌, ◌++◌, append_assoc, append-nil}
use mathlib.Core.Bool.{true, false, ◌||◌}
use native.Mathlib.Omega.{arith}
use native.Mathlib.Numerals.{add-one}
use lib.Dec.{eqb}
use lib.ListN.{length, get_or, take}
use lib.Seq.{take-suc}
use Rattle.snapshot.specs.Limits.{area_limit}
use Rattle.snapshot.specs.Records.{Snapshot}
use Rattle.snapshot.specs.Layouts.{snap_of}
use Rattle.snapshot.specs.declared.layout.Layout.{Layout}
use Rattle.check_rules.specs.Verdict.{verdict}
use Rattle.accept.specs.Post.{Checked}
use Rattle.std.specs.Prelude.{Ok, Err}
use Rattle.accept.specs.declared.check.Refused.{Refused}
use Rattle.printing.specs.Output.{Put}
use Rattle.printing.proofs.Laws.{put_as}
use Rattle.find_path_spec.specs.declared.Question.{Question}
use Rattle.find_path_spec.specs.declared.Report.{Report}
use Rattle.find_path_spec.specs.Report.{refused}
use Rattle.find_path_spec.specs.Line.{bytes_of, decimal, rule_names, step_text, steps_text, route_text, line_in, routed_line_in, routed_line_of}
use Rattle.find_path_spec.specs.Line.{snapshot_of}
use Rattle.find_path_spec.proofs.laws.Reports.{report_bounded}
use Rattle.answer.specs.checked.Questioned.{Questioned}
use Rattle.answer.proofs.checked.Putting.{report_refused, snapshot_read}
use Rattle.printer.specs.route.Routed.{RoutedOn}

pub step_whole : (t : ℕ) {rule : ℕ} → rule ≡ t % 8
    → bytes_of " " ++ (get_or rule_names rule [] ++ (bytes_of "@" ++ decimal (t / 8))) ≡ bytes_of " " ++ step_text t
unfolding step_text
step_whole t e = ap (λ r. bytes_of " " ++ (get_or rule_names r [] ++ (bytes_of "@" ++ decimal (t / 8)))) e

steps_snoc : (ts : List ℕ) (t : ℕ) → steps_text ts ++ (bytes_of " " ++ step_text t) ≡ steps_text (ts ++ (t ∷ []))
unfolding steps_text
steps_snoc [] t = ap (λ x. bytes_of " " ++ x) (sym (append-nil (step_text t)))
steps_snoc (x ∷ ts) t =
    ap (λ y. bytes_of " " ++ y)
    (append_assoc (step_text x) (steps_text ts) (bytes_of " " ++ step_text t) ∙ ap (λ y. step_text x ++ y) (steps_snoc ts t))

pub steps_none : (ts : List ℕ) → [] ≡ steps_text (take 0 ts)
unfolding steps_text
steps_none ts = refl

pub steps_next : (ts : List ℕ) (i : ℕ) → i < length ts → steps_text (take i ts) ++ (bytes_of " " ++ step_text (get_or ts i 0))
    ≡ steps_text (take (i + 1) ts)
steps_next ts i h =
    steps_snoc (take i ts) (get_or ts i 0) ∙ ap steps_text (sym (take-suc ts i 0 h) ∙ ap (λ k. take k ts) (sym (add-one i)))

-- the steps of a path that is found, and of no other

pub route_none : (r : Report) → (eqb r.outcome 0 || eqb r.outcome 3) ≡ false → [] ≡ route_text r
unfolding route_text
route_none r h = rw (route_text, h)

pub route_found : (r : Report) → (eqb r.outcome 0 || eqb r.outcome 3) ≡ true → steps_text (take r.steps r.route) ≡ route_text r
unfolding route_text
route_found r e = rw (route_text, e)

pub routed_whole : (s : Snapshot) (from : ℕ) (r : Report)
    → (line_in s from r ++ route_text r) ++ bytes_of "\n" ≡ routed_line_in s from r ++ bytes_of "\n"
unfolding routed_line_in
routed_whole s from r = refl

-- a refusal has no route
refused_routed : (s : Snapshot) (from n : ℕ) → line_in s from (refused n) ≡ routed_line_in s from (refused n)
unfolding routed_line_in refused
refused_routed s from n =
    sym (append-nil (line_in s from (refused n))) ∙ ap (λ x. line_in s from (refused n) ++ x) (route_none (refused n) refl)

module _ (W : List ℕ) (q : Question) (A : List ℕ) (c : Checked) (r : Report) (a : Questioned W q c A r) where
  pub few_steps : r.steps ≤ 17
  few_steps = let b = report_bounded W area_limit q in rw a.report (omega (arith, b.few, b.once))

  module _ (old new : List ℕ) (t : ℕ) where
    pub routed_refused : (f : Refused) → c ≡ Err f
        → ((s : Snapshot) (from : ℕ) → Put old 0 (line_in s from (refused r.number) ++ bytes_of "\n") new t) → RoutedOn W q c A old new t
    unfolding routed_line_of
    routed_refused f e p =
        let s = snapshot_of (verdict W) in
        let u = refused_routed s q.query.from.0 r.number ∙ ap (routed_line_in s q.query.from.0) (report_refused W q A c r a f e) in
        record {
          line = put_as (ap (λ x. x ++ bytes_of "\n") u) (p s q.query.from.0);
          checked = a.checked;
        }

    pub routed_accepted : (l : Layout) → c ≡ Ok l → Put old 0 (routed_line_in (snap_of W A l) q.query.from.0 r ++ bytes_of "\n") new t
        → RoutedOn W q c A old new t
    unfolding routed_line_of
    routed_accepted l e p =
        let v = snapshot_read W q A c r a l e in
        record {
          line = put_as (ap₂ (λ x y. routed_line_in x q.query.from.0 y ++ bytes_of "\n") v a.report) p;
          checked = a.checked;
        }
