use Prim.Native.Nat.{◌+◌, ◌-◌}
use mathlib.Core.Path.{◌≡◌, ◌∙◌}
use native.Mathlib.Omega.{arith}
use borrow.Author.Rules.{rules}
use borrow.Rule.Slice.PartMut.{mid_len}
use Rattle.find_path_local.specs.near.Numbers.{failures_at}
use Rattle.find_path_local.specs.tight_rows.Rows.{rows_at}
use Rattle.find_path_local.proofs.tight_rows.Keeping.{cleared_all}
use Rattle.find_path_local.proofs.tight_rows.clear_rows.Goals as goal

pub returns : goal.returns
returns c =
    let n = c.args.count in
    let e : rows_at + n - failures_at ≡ n + 1 = omega arith in
    cleared_all c.args.area.now _ n _ _ e (mid_len failures_at (rows_at + n) c.args.area.now (omega arith) ∙ e)
    (c.fill.ensures.after (λ y q. search rules)) (omega arith)
