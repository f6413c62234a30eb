use Prim.Native.Nat.{◌+◌, ◌-◌}
use mathlib.Core.Path.{◌≡◌, ◌∙◌}
use native.Mathlib.Omega.{arith}
use borrow.Author.Rules.{rules}
use borrow.Rule.Slice.PartMut.{mid_len}
use Rattle.snapshot.specs.Limits.{crate_limit}
use Rattle.record_index.proofs.Ranging.{emptied_all}
use Rattle.record_index.proofs.ranges.clear_ends.Goals as goal

pub returns : goal.returns
returns c =
    let n = c.args.crates in
    let ends = c.args.at + crate_limit in
    let e : ends + n - ends ≡ n = omega arith in
    emptied_all c.args.area.now _ c.args.at n _ _ e (mid_len ends (ends + n) c.args.area.now (omega arith) ∙ e)
    (c.fill.ensures.after (λ y q. search rules)) c.requires.0 c.requires.1
