use Prim.Native.Nat.{◌+◌, ◌-◌}
use mathlib.Core.Path.{◌≡◌, refl, ap, ◌∙◌}
use mathlib.Core.List.{◌++◌}
use native.Mathlib.Omega.{arith}
use lib.ListN.{take, drop, length-set}
use Rattle.snapshot.specs.Sizes.{scope_size}
use Rattle.edit_rules.proofs.scope_edits.Shifted.{up_start, up_next}
use Rattle.edit_rules.proofs.scope_edits.moves.move_up.Goals as goal

pub loop-i-init : goal.loop-i-init
loop-i-init c = let p = c.requires in (p.0, omega arith, refl, up_start c.args.words.now c.args.count (omega arith))

pub loop-i-preserved : goal.loop-i-preserved
loop-i-preserved c =
    let l = c.loop-i in
    let p = c.requires in
    let k = l.invariant in
    let t = c.loop-i-test.true in (
      omega arith,
      omega arith,
      (simp length-set) ∙ k.2,
      up_next c.args.words.now l.words (drop (c.args.count + scope_size) c.args.words.now) c.args.count l.i
          (l.i - 1) (omega arith) k.1 p.1 k.3,
    )

pub returns : goal.returns
returns c =
    let l = c.loop-i in
    let k = l.invariant in
    let e : l.i ≡ c.args.at = let t = c.loop-i-test.false in let a = k.0 in omega arith in
    k.3 ∙ ap (λ i. take (i + scope_size) c.args.words.now ++ (drop i (take c.args.count c.args.words.now) ++ drop
    (c.args.count + scope_size) c.args.words.now)) e
