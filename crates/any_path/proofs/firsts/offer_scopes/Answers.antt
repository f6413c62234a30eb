use Rattle.module_tree.proofs.Climbs.{some_number, none_number}
use Rattle.any_path.proofs.Taken.{stays_reads}
use Rattle.any_path.proofs.Plains.{around_start, around_stays, around_less, around_next, around_done}
use Rattle.any_path.proofs.firsts.offer_scopes.Goals as goal

pub loop-b-init : goal.loop-b-init
loop-b-init c = around_start _ _ _ c.requires.0 _ c.args.n c.requires.1 c.requires.2

pub offer_scope-count-requires : goal.offer_scope-count-requires
offer_scope-count-requires c =
    let g = c.loop-b.invariant.grown in
    (stays_reads _ _ c.loop-b.area _ c.requires.0 g.stays, c.requires.1, g.run)

pub invariant_of-db : goal.invariant_of-db
invariant_of-db c =
    record { reads = stays_reads _ _ _ _ c.requires.0 (around_stays _ _ _ c.requires.0 _ c.args.n c.loop-b.invariant c.offer_scope-count.ensures) }

pub block_step-requires : goal.block_step-requires
block_step-requires c = c.loop-b.invariant.known

pub returns-in_default : goal.returns-in_default
returns-in_default c =
    around_done _ _ _ c.requires.0 _ c.args.n c.loop-b.invariant c.offer_scope-count.ensures (none_number _ c.block_step.ensures c.in_default.is)

pub loop-b-smaller : goal.loop-b-smaller
loop-b-smaller c =
    around_less _ _ _ c.requires.0 _ c.args.n c.loop-b.invariant c.offer_scope-count.ensures (some_number _ c.block_step.ensures c.in-Some.is)

pub loop-b-preserved : goal.loop-b-preserved
loop-b-preserved c =
    around_next _ _ _ c.requires.0 _ c.args.n c.loop-b.invariant c.offer_scope-count.ensures (some_number _ c.block_step.ensures c.in-Some.is)
