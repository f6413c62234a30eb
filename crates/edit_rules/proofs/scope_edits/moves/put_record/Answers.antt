use mathlib.Core.Path.{refl, ◌∙◌}
use native.Mathlib.Omega.{arith}
use lib.ListN.{length-set}
use lib.Seq.{paste-zero}
use Rattle.edit_rules.proofs.scope_edits.Shifted.{put_next, put_end}
use Rattle.edit_rules.proofs.scope_edits.moves.put_record.Goals as goal

pub loop-i-init : goal.loop-i-init
loop-i-init c = (omega arith, refl, paste-zero c.args.words.now c.args.at c.args.added.now)

pub loop-i-preserved : goal.loop-i-preserved
loop-i-preserved c =
    let l = c.loop-i in
    let p = c.requires in
    let k = l.invariant in
    let t = c.loop-i-test.true in (
      omega arith,
      (simp length-set) ∙ k.1,
      put_next c.args.words.now l.words c.args.added.now c.args.at l.i p.0 p.1 t k.2,
    )

pub returns : goal.returns
returns c =
    let l = c.loop-i in
    let k = l.invariant in
    let t = c.loop-i-test.false in
    put_end c.args.words.now l.words c.args.added.now c.args.at l.i c.requires.1 k.0 (omega arith) k.2
