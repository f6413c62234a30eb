use Prim.Native.Nat.{◌+◌, ◌<◌}
use mathlib.Core.Path.{◌≡◌, refl, ◌∙◌, subst}
use native.Mathlib.Omega.{arith}
use lib.ListN.{length, take, length-set}
use Rattle.printing.specs.Output.{Put}
use Rattle.line.proofs.Laws.{length_unpacked}
use Rattle.printing.proofs.Laws.{put_start, put_next}
use Rattle.find_path_spec.specs.Line.{unpacked}
use Rattle.line.proofs.text.put_text.Goals as goal

pub loop-i-init : goal.loop-i-init
loop-i-init c = (
  omega arith,
  refl,
  put_start c.args.out.now (unpacked c.args.text.now)
      c.args.at,
)

pub loop-i-preserved : goal.loop-i-preserved
loop-i-preserved c =
    let a = c.args in
    let l = c.loop-i in
    let u = length_unpacked a.text.now in
    let h : a.at + l.i < length l.out = omega arith in
    let p : l.i < length (unpacked a.text.now) = omega arith in (
      omega arith,
      (simp length-set) ∙ l.invariant.1,
      put_next a.out.now l.out (unpacked a.text.now) a.at l.i _ l.invariant.2 h p c.text_byte.ensures,
    )

pub returns : goal.returns
returns c = let l = c.loop-i in
    let a = c.args in
    let e : l.i ≡ a.n = omega arith in
    record { put = subst (λ n. Put a.out.now a.at (take n (unpacked a.text.now)) l.out (a.at + n)) e l.invariant.2; value = omega arith }
