use native.Mathlib.Omega.{arith}
use Rattle.hir_def.proofs.Along.{from_link, from_head, from_none}
use Rattle.hir_def.proofs.chain.first_from.Goals as goal

pub returns-then-k-gt0 : goal.returns-then-k-gt0
returns-then-k-gt0 c =
    from_link _ _ _ _ _ _ c.args.db.now.reads c.if-k-gt0.true c.requires.0 c.requires.1 c.links.ensures c.half.ensures.0

pub returns-then-key-keys : goal.returns-then-key-keys
returns-then-key-keys c =
    from_head _ _ _ _ _ _ c.args.db.now.reads (omega (arith, c.if-k-gt0.false)) c.keys.ensures c.if-key-keys.true c.heads.ensures
    c.half-then-key-keys.ensures.0

pub returns : goal.returns
returns c =
    from_none _ _ _ _ _ _ c.args.db.now.reads (omega (arith, c.if-k-gt0.false)) c.keys.ensures (omega (arith, c.if-key-keys.false)) c.count.ensures
