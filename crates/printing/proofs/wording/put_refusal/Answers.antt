use mathlib.Core.Path.{subst⁻¹}
use mathlib.Core.List.{List}
use Prim.Native.Nat.{ℕ, ◌≤◌}
use lib.ListN.{length}
use native.Mathlib.Omega.{arith}
use Rattle.printing.proofs.Laws.{put_two, put_as}
use Rattle.printing.proofs.wording.Laws.{meaning_short}
use Rattle.printing.proofs.wording.put_refusal.Goals as goal

pub put-requires : goal.put-requires
put-requires c =
    let h = subst⁻¹ (λ (x : List ℕ). length x ≤ 100) c.meaning.ensures (meaning_short _) in
    omega (arith, h, c.requires)

pub returns : goal.returns
returns c =
    put_two c.put_labelled-a.ensures.put (put_two c.put_line-b.ensures.put (put_as c.meaning.ensures c.put.ensures))
