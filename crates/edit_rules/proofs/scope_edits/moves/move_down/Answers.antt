use mathlib.Core.Path.{refl, ◌∙◌}
use native.Mathlib.Omega.{arith}
use lib.ListN.{length-set}
use Rattle.edit_rules.proofs.scope_edits.Shifted.{down_start, down_next, down_end}
use Rattle.edit_rules.proofs.scope_edits.moves.move_down.Goals as goal

pub loop-i-init : goal.loop-i-init
loop-i-init c = let p = c.requires in (omega arith, p.0, refl, down_start c.args.words.now c.args.at c.args.count p.0 p.1)

pub loop-i-preserved : goal.loop-i-preserved
loop-i-preserved c =
    let l = c.loop-i in
    let p = c.requires in
    let k = l.invariant in
    let t = c.loop-i-test.true in (
      omega arith,
      omega arith,
      (simp length-set) ∙ k.2,
      down_next c.args.words.now c.args.at c.args.count p.0 p.1 l.words l.i k.0 (omega arith) k.3,
    )

pub returns : goal.returns
returns c =
    let l = c.loop-i in
    let p = c.requires in
    let k = l.invariant in
    let t = c.loop-i-test.false in
    down_end c.args.words.now c.args.at c.args.count p.0 p.1 l.words l.i k.1 (omega arith) k.3
