use native.Mathlib.Omega.{arith}
use Rattle.hir_def.proofs.spans.part_of.Goals as goal

pub returns-then-db-c : goal.returns-then-db-c
returns-then-db-c c = λ owner n r below i h e. let a = below i h in absurd (omega (arith, a, e, c.if-db-c.true))

pub returns : goal.returns
returns c =
    λ owner n r below i h e.
    let w = r c.args.c.0 (omega (arith, c.if-db-c.false)) i h e in
    (omega (arith, w.0, c.word.ensures), omega (arith, w.1, c.word-2.ensures))
