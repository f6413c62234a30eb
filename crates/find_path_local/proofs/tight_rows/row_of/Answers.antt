use mathlib.Core.Path.{refl, sym, ap, ◌∙◌}
use native.Mathlib.Omega.{arith}
use Rattle.find_path_choice.specs.Given.{chosen, given}
use Rattle.find_path_local.specs.tight_rows.Rows.{row_of}
use Rattle.find_path_local.proofs.tight_rows.Keeping.{row_none, row_flag_lem, row_plain, placed_some}
use Rattle.find_path_local.proofs.tight_rows.row_of.Goals as goal

pub returns-in_default : goal.returns-in_default
returns-in_default c = (row_none (given c.args.c) (ap (λ o. (given o).found) c.in_default.is), omega arith)

pub overflow_sub-last : goal.overflow_sub-last
overflow_sub-last c = omega (arith, (placed_some _ c.in-Some.is c.requires).0)

pub offset_bounds-route-last : goal.offset_bounds-route-last
offset_bounds-route-last c = omega (arith, (placed_some _ c.in-Some.is c.requires).1)

pub bounds-route-last : goal.bounds-route-last
bounds-route-last c =
    let p = placed_some _ c.in-Some.is c.requires in
    omega (arith, p.0, p.1)

pub overflow_mul-row : goal.overflow_mul-row
overflow_mul-row c = omega (arith, (placed_some _ c.in-Some.is c.requires).2)

pub overflow_add-row : goal.overflow_add-row
overflow_add-row c = omega (arith, (placed_some _ c.in-Some.is c.requires).2)

pub overflow_add-result : goal.overflow_add-result
overflow_add-result c = omega (arith, (placed_some _ c.in-Some.is c.requires).2)

pub returns-then-d : goal.returns-then-d
returns-then-d c =
    let p = placed_some _ c.in-Some.is c.requires in
    (row_flag_lem (chosen c.in-Some.d) refl refl c.if-d.true ∙ sym (ap (λ o. row_of (given o)) c.in-Some.is), omega (arith, p.2))

pub returns : goal.returns
returns c =
    let p = placed_some _ c.in-Some.is c.requires in
    (row_plain (chosen c.in-Some.d) refl refl c.if-d.false ∙ sym (ap (λ o. row_of (given o)) c.in-Some.is), omega (arith, p.2))
