use mathlib.Core.Path.{sym, ap, subst, ◌∙◌}
use Rattle.snapshot.specs.Records.{scope_at}
use Rattle.hir_def.specs.Entries.{entry_of}
use native.Mathlib.Omega.{arith}
use Rattle.hir_def.proofs.Searches.{near_here, near_end, near_on}
use Rattle.hir_def.proofs.finds.nearest.Goals as goal

pub returns-in-Some : goal.returns-in-Some
returns-in-Some g c = λ W f step x.
    let v = c.loop-h.invariant in
    near_here x v.0 c.find-e.ensures c.in-Some.is ∙ sym (v.1 W f step x)

pub returns-in_err-m : goal.returns-in_err-m
returns-in_err-m g c = λ W f step x.
    let v = c.loop-h.invariant in
    ap (entry_of scope_at W) c.from_residual.ensures
    ∙ near_end x v.0 c.find-e.ensures c.outward.ensures c.in_default.is c.in_err-m.was ∙ sym (v.1 W f step x)

pub loop-h-preserved : goal.loop-h-preserved
loop-h-preserved g c =
    let v = c.loop-h.invariant in
    let less = c.requires.falls _ _ v.0 (subst (goal.S-post g c.args.outward _) c.in_ok-m.was c.outward.ensures) in (
      omega (arith, less, v.0),
      λ W f step x. v.1 W f step x ∙ near_on x v.0 c.find-e.ensures c.outward.ensures c.in_default.is c.in_ok-m.was,
    )
