use mathlib.Core.Path.{refl, sym, ap, ◌∙◌}
use native.Mathlib.Omega.{arith}
use Rattle.check_rules.proofs.Exits.{err_is}
use Rattle.snapshot.specs.Limits.{area_limit}
use Rattle.snapshot.specs.Layouts.{snap_of}
use Rattle.snapshot.specs.Records.{Snapshot}
use Rattle.snapshot.proofs.Laws.{refusal_some}
use Rattle.hir_def.proofs.Fits.{few_words}
use Rattle.nameable.specs.Paths.{route_of}
use Rattle.any_path.proofs.Taken.{stays_snap, stays_reads}
use Rattle.told_paths.specs.Tells.{padded}
use Rattle.answer.proofs.checked.Laws.{refused_verdict, accepted_reads}
use Rattle.answer.proofs.any_answer.Laws.{on_fault, on_refused, on_accepted, any_fault, any_found, told_nowhere, told_there_by, asked_known}
use Rattle.answer.proofs.any_answer.asked.answered.Goals as goal

pub returns-in_err-call_fault : goal.returns-in_err-call_fault
returns-in_err-call_fault c =
    rw (err_is _ _ c.from_residual.ensures.1)
    (on_fault c.args.words.now area_limit c.args.q c.in_err-call_fault.ensures (refusal_some _) refl)

pub returns-in_err-layout : goal.returns-in_err-layout
returns-in_err-layout c =
    let W = c.args.words.now in
    rw (err_is _ _ c.from_residual-in_err-layout.ensures.1) (on_refused W area_limit c.args.q c.in_ok-call_fault.ensures refl _ _
    (refused_verdict W c.args.area.now _ _ c.told-area c.in_err-layout.ensures _ refl) refl)

pub invariant_of-records : goal.invariant_of-records
invariant_of-records c =
    let W = c.args.words.now in
    let r = accepted_reads W c.args.area.now c.check.new.area _ c.told-area c.in_ok-layout.ensures _ refl in
    record { fits = few_words W c.check.new.area c.in_ok-layout.layout r }

pub returns-in_err-question_fault : goal.returns-in_err-question_fault
returns-in_err-question_fault c =
    let W = c.args.words.now in
    let A = c.check.new.area in
    let r = accepted_reads W c.args.area.now A _ c.told-area c.in_ok-layout.ensures _ refl in
    rw (err_is _ _ c.from_residual-in_err-question_fault.ensures.1) (on_accepted W area_limit c.args.q c.in_ok-call_fault.ensures refl _ r.same
    (any_fault (snap_of W A c.in_ok-layout.layout) c.args.q (c.in_err-question_fault.ensures A) (refusal_some _) refl))

pub shortest-requires : goal.shortest-requires
shortest-requires c =
    let W = c.args.words.now in
    let A = c.check.new.area in
    let r = accepted_reads W c.args.area.now A _ c.told-area c.in_ok-layout.ensures _ refl in
    let inside = asked_known W A c.in_ok-layout.layout c.args.q (c.in_ok-question_fault.ensures A) refl in
    (r, inside, omega (arith, c.told-area, c.check.auto.area))

pub invariant_of-db : goal.invariant_of-db
invariant_of-db c =
    let W = c.args.words.now in
    let A = c.check.new.area in
    let r = accepted_reads W c.args.area.now A _ c.told-area c.in_ok-layout.ensures _ refl in
    record { reads = stays_reads W A c.shortest.new.area c.in_ok-layout.layout r c.shortest.ensures.stays }

pub invariant_of-view : goal.invariant_of-view
invariant_of-view c =
    let A = c.check.new.area in
    record { inside = asked_known c.args.words.now A c.in_ok-layout.layout c.args.q (c.in_ok-question_fault.ensures A) refl }

pub returns-in_default : goal.returns-in_default
returns-in_default c =
    let W = c.args.words.now in
    let A = c.check.new.area in
    let q = c.args.q in
    let l = c.in_ok-layout.layout in
    let r = accepted_reads W c.args.area.now A _ c.told-area c.in_ok-layout.ensures _ refl in
    on_accepted W area_limit q c.in_ok-call_fault.ensures refl _ r.same
    (any_found (snap_of W A l) q (c.in_ok-question_fault.ensures A) refl (c.item_of-item.ensures A)
    (told_nowhere (snap_of W A l) q.from.0 q.ns _ c.without.ensures (sym c.in_default.is ∙ c.shortest.ensures.value)))

pub returns : goal.returns
returns c =
    let W = c.args.words.now in
    let A = c.check.new.area in
    let q = c.args.q in
    let l = c.in_ok-layout.layout in
    let r = accepted_reads W c.args.area.now A _ c.told-area c.in_ok-layout.ensures _ refl in
    on_accepted W area_limit q c.in_ok-call_fault.ensures refl _ r.same
    (any_found (snap_of W A l) q (c.in_ok-question_fault.ensures A) refl (c.item_of-item.ensures A)
    (told_there_by (snap_of W A l) q.from.0 q.ns _ (sym c.in-Some.is ∙ c.shortest.ensures.value)
    (λ p ep.
    c.reported.ensures (snap_of W A l) q.from.0 q.ns p ep
    (λ few.
    c.route_of-route.ensures p ep few
    ∙ ap (λ (z : Snapshot). padded (route_of z q.from.0 q.ns p)) (stays_snap W A c.shortest.new.area l r c.shortest.ensures.stays)))))
