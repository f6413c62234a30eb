use native.Mathlib.Omega.{arith}
use Rattle.module_tree.proofs.Climbs.{some_number, none_number}
use Rattle.any_path.proofs.Taken.{stays_reads}
use Rattle.any_path.proofs.Begins.{climbing_start, climbing_few, parent_less, climbing_less, climbing_next, climbing_done}
use Rattle.any_path.proofs.begin.offer_supers.Goals as goal

pub loop-p-init : goal.loop-p-init
loop-p-init c =
    λ from e h. climbing_start _ _ _ c.requires.0 from c.args.n h c.requires.2 e
    c.module_around-m.ensures.1

pub invariant_of-db-in-loop-p : goal.invariant_of-db-in-loop-p
invariant_of-db-in-loop-p c =
    let inv = c.loop-p.invariant c.args.from.0 c.module_around-m.ensures.0 c.requires.1 in
    record { reads = stays_reads _ _ c.loop-p.area _ c.requires.0 inv.grown.stays }

pub parent-requires : goal.parent-requires
parent-requires c =
    let inv = c.loop-p.invariant c.args.from.0 c.module_around-m.ensures.0 c.requires.1 in
    inv.known

pub returns-in_default : goal.returns-in_default
returns-in_default c =
    let inv = c.loop-p.invariant c.args.from.0 c.module_around-m.ensures.0 c.requires.1 in
    climbing_done _ _ _ c.requires.0 c.args.from.0 c.args.n c.requires.1 inv
    (none_number _ c.parent.ensures c.in_default.is)

pub module_around-m-requires-in-loop-p : goal.module_around-m-requires-in-loop-p
module_around-m-requires-in-loop-p c =
    let inv = c.loop-p.invariant c.args.from.0 c.module_around-m.ensures.0 c.requires.1 in
    let up = some_number _ c.parent.ensures c.in-Some.is in
    let less = parent_less _ _ _ c.requires.0 c.args.from.0 c.args.n
    c.requires.1 inv _ up in omega
    (arith, less, inv.known)

pub overflow_add-k : goal.overflow_add-k
overflow_add-k c =
    let inv = c.loop-p.invariant c.args.from.0 c.module_around-m.ensures.0 c.requires.1 in
    let few = climbing_few _ _ _ c.requires.0 c.args.from.0 c.args.n c.requires.1 inv in
    record { fits = omega (arith, few, c.requires.0.tables.limited.modules) }

pub overflow_add-row : goal.overflow_add-row
overflow_add-row c =
    let inv = c.loop-p.invariant c.args.from.0 c.module_around-m.ensures.0 c.requires.1 in
    let few = climbing_few _ _ _ c.requires.0 c.args.from.0 c.args.n c.requires.1 inv in
    record { fits = omega (arith, few, c.requires.0.tables.limited.modules) }

pub offer-count-requires : goal.offer-count-requires
offer-count-requires c =
    let inv = c.loop-p.invariant c.args.from.0 c.module_around-m.ensures.0 c.requires.1 in
    let few = climbing_few _ _ _ c.requires.0 c.args.from.0 c.args.n c.requires.1 inv in
    let limit = c.requires.0.tables.limited.modules in
    (inv.grown.run, limit, c.module_around-m-in-loop-p.ensures.1, omega arith, omega (arith, few, limit), omega arith)

pub loop-p-smaller : goal.loop-p-smaller
loop-p-smaller c =
    let inv = c.loop-p.invariant c.args.from.0 c.module_around-m.ensures.0 c.requires.1 in
    let up = some_number _ c.parent.ensures c.in-Some.is in
    let less = climbing_less _ _ _ c.requires.0 c.args.from.0 c.args.n
    c.requires.1 inv _ up in
    omega (arith, less, c.module_around-m-in-loop-p.ensures.0)

pub loop-p-preserved : goal.loop-p-preserved
loop-p-preserved c =
    let up = some_number _ c.parent.ensures c.in-Some.is in
    λ from f h.
    climbing_next _ _ _ c.requires.0 from c.args.n h (c.loop-p.invariant from f h) _ up
    c.module_around-m-in-loop-p.ensures.0 c.module_around-m-in-loop-p.ensures.1 c.offer-count.ensures
