use mathlib.Core.Path.{refl, sym, ap, ap₂, ◌∙◌}
use native.Mathlib.Omega.{arith}
use Rattle.snapshot.specs.Records.{scope_at}
use Rattle.record_index.specs.Index.{key_at}
use Rattle.record_index.specs.declared.chains.Chain.TheVariants.{Items}
use Rattle.hir_def.specs.Finds.{first_of, or_first}
use Rattle.hir_def.specs.Keys.{scopes_in}
use Rattle.hir_def.proofs.Searches.{met_by, first_by, found_by, none_by, only_agree}
use Rattle.hir_def.proofs.item_scope.preferred.Goals as goal

pub returns-in_default : goal.returns-in_default
unfolding or_first
returns-in_default g c =
    λ q r its fresh less keyed.
    let W = c.args.db.now.records.words.now in
    let l = c.args.db.now.records.layout in
    let o = key_at W l Items in
    let k = c.item_key-key.result in
    let z = none_by r scope_at W _ _ refl
    (only_agree o k r (scope_at W) _ (λ h n. less (scope_at W h) (keyed h (λ e. n (e ∙ sym c.item_key-key.ensures)))) fresh) c.next_in_chain.ensures
    c.in_default.is
    in (
      ap₂ or_first z.0 (first_by q scope_at W _ _ refl
          (only_agree o k q (scope_at W) _ (λ h n. keyed h (λ e. n (e ∙ sym c.item_key-key.ensures))) its) _ c.first_in_chain.ensures),
      z.1,
    )

pub overflow_add-result : goal.overflow_add-result
overflow_add-result g c =
    let m = met_by _ _ _ _ _ c.next_in_chain.ensures c.in-Some.is in
    record { fits = omega (arith, m.below, c.args.db.now.records.fits) }

pub returns : goal.returns
unfolding or_first
returns g c =
    λ q r its fresh less keyed.
    let W = c.args.db.now.records.words.now in
    let l = c.args.db.now.records.layout in
    let z = found_by r scope_at W _ _ refl
    (only_agree (key_at W l Items) c.item_key-key.result r (scope_at W) _
    (λ h n. less (scope_at W h) (keyed h (λ e. n (e ∙ sym c.item_key-key.ensures)))) fresh) c.next_in_chain.ensures c.in-Some.is
    in
    (ap (λ o. or_first o (first_of q (scopes_in W l))) z.0, z.1)
