use Prim.Native.Nat.{ℕ}
use mathlib.Core.Path.{refl, sym, ap, ◌∙◌}
use native.Mathlib.Omega.{arith}
use Rattle.snapshot.specs.Layouts.{snap_of}
use Rattle.hir_def.specs.Items.{definition_of}
use Rattle.any_path.proofs.Written.{run_small}
use Rattle.any_path.proofs.Taken.{lead_known, entry_offered, entry_passed}
use Rattle.any_path.proofs.expand.offer_entry.Goals as goal

pub overflow_mul-i : goal.overflow_mul-i
overflow_mul-i c =
    record { fits = omega (arith, run_small _ _ _ c.requires.3 c.requires.0.tables.limited.modules, c.requires.4) }

pub overflow_add-i : goal.overflow_add-i
overflow_add-i c =
    record { fits = omega (arith, run_small _ _ _ c.requires.3 c.requires.0.tables.limited.modules, c.requires.4) }

pub overflow_add-row : goal.overflow_add-row
overflow_add-row c =
    record { fits = omega (arith, run_small _ _ _ c.requires.3 c.requires.0.tables.limited.modules, c.requires.4) }

pub offer-requires : goal.offer-requires
offer-requires c =
    let W = c.args.records.now.words.now in
    let A = c.args.area.now in
    let limits = c.requires.0.tables.limited in
    let known = lead_known _ _ _ c.requires.0 c.args.from.0 c.args.i c.args.n c.args.h _ c.requires.2
    (sym c.leads_on.ensures ∙ c.if-leads_on.true) in
    let target = c.first_of-target.ensures A
    ∙ ap (λ (d : ℕ). (definition_of (snap_of W A c.args.records.now.layout) d).first) c.scope_definition.ensures in (
      c.requires.3,
      limits.modules,
      omega (arith, known, target),
      omega (arith, c.requires.4),
      omega (arith, c.requires.2.name, limits.names, c.scope_name-name.ensures),
      omega (arith, c.requires.2.place),
    )

pub returns-then-leads_on : goal.returns-then-leads_on
returns-then-leads_on c =
    let W = c.args.records.now.words.now in
    let A = c.args.area.now in
    let target = c.first_of-target.ensures A
    ∙ ap (λ (d : ℕ). (definition_of (snap_of W A c.args.records.now.layout) d).first) c.scope_definition.ensures in
    entry_offered _ _ _ c.requires.0 c.args.from.0 c.args.i c.args.n c.args.h _ c.word.ensures
    (sym c.leads_on.ensures ∙ c.if-leads_on.true) target refl c.scope_name-name.ensures c.offer.ensures

pub returns : goal.returns
returns c =
    entry_passed _ _ _ c.requires.0 c.args.from.0 c.args.i c.args.n c.args.h _
    c.requires.3 c.word.ensures (sym c.leads_on.ensures ∙ c.if-leads_on.false)
