use native.Mathlib.Omega.{arith}
use Rattle.any_path.proofs.Taken.{as_run, grown_then, stays_reads}
use Rattle.any_path.proofs.Begins.{run_empty, root_below, begin_done}
use Rattle.any_path.proofs.begin.begin.Goals as goal

pub offer-one-requires : goal.offer-one-requires
offer-one-requires c =
    (run_empty _ _ c.requires.2, c.requires.0.tables.limited.modules, c.module_around-around.ensures.1, omega arith, omega arith, omega arith)

pub offer-two-requires : goal.offer-two-requires
offer-two-requires c =
    let below = root_below _ _ _ c.requires.0 c.args.from.0 c.requires.1 in
    let root = c.crate_root-root.ensures in
    (c.offer-one.ensures.run, c.requires.0.tables.limited.modules, omega (arith, below, root), omega arith, omega arith, omega arith)

pub offer_supers-requires : goal.offer_supers-requires
offer_supers-requires c =
    let two = grown_then (as_run c.offer-one.ensures) (as_run c.offer-two.ensures) in
    (stays_reads _ _ _ _ c.requires.0 two.stays, c.requires.1, c.offer-two.ensures.run)

pub returns : goal.returns
returns c =
    begin_done _ _ _ c.requires.0 c.args.from.0 _ _ c.module_around-around.ensures.0
    c.crate_root-root.ensures c.offer-one.ensures c.offer-two.ensures c.offer_supers.ensures
