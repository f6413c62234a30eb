use mathlib.Core.Path.{◌≡◌, refl, ap, ◌∙◌}
use Rattle.check_rules.proofs.Exits.{err_is}
use Rattle.snapshot.specs.Limits.{area_limit}
use Rattle.snapshot.specs.Layouts.{snap_of}
use Rattle.snapshot.proofs.Laws.{refusal_some}
use Rattle.find_path_spec.specs.declared.Query.{Query}
use Rattle.find_path_spec.specs.Report.{call_fault}
use Rattle.reach.specs.declared.parts.Viewer.{Viewer}
use Rattle.answer.proofs.checked.Laws.{length_modules, fault_free, reads_of}
use Rattle.reach.specs.parts.Reach.{query_for}
use Rattle.reach.proofs.Laws.{reach_fault, reach_verdict, by_refusal, by_answer, unknown_module, known_module}
use Rattle.reach.proofs.reach_on.Goals as goal

asked : (v : Viewer) {q : Query} → q ≡ query_for v 0 0 → call_fault area_limit q v.fuel ≡ call_fault area_limit (query_for v 0 0) v.fuel
asked v e = ap (λ q. call_fault area_limit q v.fuel) e

pub returns-in_err-call_fault : goal.returns-in_err-call_fault
returns-in_err-call_fault c =
    rw (err_is _ _ c.from_residual.ensures.1) (record {
      reach = reach_fault c.args.v _ c.args.words.now area_limit _
          (c.in_err-call_fault.ensures ∙ asked c.args.v c.query_for.ensures) (refusal_some _) refl;
      checked = c.requires;
    })

pub returns-in_err-layout : goal.returns-in_err-layout
returns-in_err-layout c =
    let s = c.args in
    let k = by_refusal s.v _ s.words.now s.area.now s.c c.requires _ c.in_err-layout.was refl in
    rw (err_is _ _ c.from_residual-in_err-layout.ensures.1) (record {
      reach = reach_verdict s.v _ s.words.now area_limit _ (c.in_ok-call_fault.ensures ∙ asked s.v c.query_for.ensures) refl k.0;
      checked = k.1;
    })

pub returns-then-layout-v : goal.returns-then-layout-v
returns-then-layout-v c =
    let s = c.args in
    let l = c.in_ok-layout.layout in
    let e = unknown_module s.v _ (snap_of s.words.now s.area.now l) _ (length_modules s.words.now s.area.now l) c.if-layout-v.true refl in
    let k = by_answer s.v _ s.words.now s.area.now s.c c.requires l _ c.in_ok-layout.was refl e in
    record {
      reach = reach_verdict s.v _ s.words.now area_limit _ (c.in_ok-call_fault.ensures ∙ asked s.v c.query_for.ensures) refl k.0;
      checked = k.1;
    }

pub reach_in-requires : goal.reach_in-requires
reach_in-requires c =
    let s = c.args in
    let k = fault_free area_limit (query_for s.v 0 0) s.v.fuel (c.in_ok-call_fault.ensures ∙ asked s.v c.query_for.ensures) in (
      reads_of s.words.now s.area.now s.c c.requires _ c.in_ok-layout.was,
      c.if-layout-v.false,
      k.1,
      k.3,
      k.4,
    )

pub returns : goal.returns
returns c =
    let s = c.args in
    let l = c.in_ok-layout.layout in
    let f = c.reach_in.ensures in
    let e = known_module s.v _ (snap_of s.words.now s.area.now l) _ (length_modules s.words.now s.area.now l) c.if-layout-v.false
    refl f.value in
    let k = by_answer s.v _ s.words.now s.area.now s.c c.requires l _ c.in_ok-layout.was f.area_unchanged e in
    record {
      reach = reach_verdict s.v _ s.words.now area_limit _ (c.in_ok-call_fault.ensures ∙ asked s.v c.query_for.ensures) refl k.0;
      checked = k.1;
    }
