use mathlib.Core.Path.{◌≡◌, sym, ap, ◌∙◌}
use native.Mathlib.Omega.{arith}
use Prim.Native.Nat.{◌+◌, ◌-◌}
use Rattle.module_tree.proofs.Climbs.{some_number, none_number}
use Rattle.told_paths.proofs.told_routes.Laws.{above_means, above_here, above_gone, above_on, parent_below}
use Rattle.accept.specs.Opened.{snap_in}
use Rattle.told_paths.proofs.told_routes.starts.above.Goals as goal

pub loop-step-init : goal.loop-step-init
loop-step-init c =
    let e : c.args.supers ≡ c.args.supers - 0 = omega arith in
    (ap (λ k. above_means (snap_in c.args.db.now) k c.args.m.0) e, c.requires)

pub returns-in_err-p : goal.returns-in_err-p
returns-in_err-p c =
    let S = snap_in c.args.db.now in
    c.from_residual.ensures
    ∙ above_gone S c.loop-step.at.0 (c.args.supers - c.loop-step._step) (omega arith)
    (none_number _ c.parent.ensures c.in_err-p.was) ∙ sym c.loop-step.invariant.0

pub module_around-at-requires : goal.module_around-at-requires
module_around-at-requires c =
    parent_below c.args.db.now.records.words.now c.args.db.now.area.now c.args.db.now.records.layout c.args.db.now.reads c.loop-step.at.0 _
    c.loop-step.invariant.1
    (some_number _ c.parent.ensures c.in_ok-p.was)

pub loop-step-preserved : goal.loop-step-preserved
loop-step-preserved c =
    let S = snap_in c.args.db.now in
    let e : c.args.supers - c.loop-step._step - 1 ≡ c.args.supers - (c.loop-step._step + 1) = omega arith in (
      c.loop-step.invariant.0
          ∙ (above_on S c.loop-step.at.0 (c.args.supers - c.loop-step._step) _ (omega arith) (some_number _ c.parent.ensures c.in_ok-p.was)
          ∙ (ap (above_means S (c.args.supers - c.loop-step._step - 1)) (sym c.module_around-at.ensures.0)
          ∙ ap (λ k. above_means S k c.module_around-at.result.0) e)),
      c.module_around-at.ensures.1,
    )

pub returns : goal.returns
returns c =
    let S = snap_in c.args.db.now in
    above_here S c.loop-step.at (c.args.supers - c.loop-step._step) (omega (arith, c.loop-step-test.false)) ∙ sym c.loop-step.invariant.0
