use Rattle.any_path.proofs.Taken.{grown_then, stays_reads}
use Rattle.any_path.proofs.Plains.{plains_done}
use Rattle.any_path.proofs.firsts.offer_plains.Goals as goal

pub offer_externs-outer-requires : goal.offer_externs-outer-requires
offer_externs-outer-requires c =
    let f = c.offer_scopes-near.ensures in
    (stays_reads _ _ _ _ c.requires.0 f.stays, c.requires.1, f.run)

pub offer_prelude-requires : goal.offer_prelude-requires
offer_prelude-requires c =
    let g = c.offer_externs-outer.ensures in
    (stays_reads _ _ _ _ c.requires.0 (grown_then c.offer_scopes-near.ensures g).stays, c.requires.1, g.run)

pub returns : goal.returns
returns c =
    let from = c.args.from.0 in
    plains_done _ _ _ c.requires.0 from c.args.n c.offer_scopes-near.ensures c.offer_externs-outer.ensures c.offer_prelude.ensures
