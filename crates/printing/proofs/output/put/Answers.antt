use Prim.Native.Nat.{◌+◌, ◌<◌}
use mathlib.Core.Path.{◌≡◌, refl, ◌∙◌}
use native.Mathlib.Omega.{arith}
use lib.ListN.{length, length-set}
use Rattle.printing.proofs.Laws.{put_start, put_next, put_end}
use Rattle.printing.proofs.output.put.Goals as goal

pub loop-i-init : goal.loop-i-init
loop-i-init c = (omega arith, refl, put_start c.args.out.now c.args.text.now c.args.at)

pub loop-i-preserved : goal.loop-i-preserved
loop-i-preserved c =
    let a = c.args in
    let l = c.loop-i in
    let h : a.at + l.i < length l.out = omega arith in
    let p : l.i < length a.text.now = omega arith in
    (omega arith, (simp length-set) ∙ l.invariant.1, put_next a.out.now l.out a.text.now a.at l.i _ l.invariant.2 h p refl)

pub returns : goal.returns
returns c =
    let l = c.loop-i in
    let e : l.i ≡ length c.args.text.now = omega arith in
    put_end _ _ _ _ _ l.invariant.2 e
