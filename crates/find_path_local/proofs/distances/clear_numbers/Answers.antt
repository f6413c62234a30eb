use Prim.Native.Nat.{◌+◌, ◌-◌}
use mathlib.Core.Path.{◌≡◌, ◌∙◌}
use native.Mathlib.Omega.{arith}
use borrow.Author.Rules.{rules}
use borrow.Rule.Slice.PartMut.{mid_len}
use Rattle.snapshot.specs.Layouts.{table_words}
use Rattle.find_path_local.proofs.distances.Marking.{cleared_all}
use Rattle.find_path_local.proofs.distances.clear_numbers.Goals as goal

pub returns : goal.returns
returns c =
    let n = c.args.count in
    let e : table_words + n - table_words ≡ n = omega arith in
    cleared_all c.args.area.now _ n _ _ e (mid_len table_words (table_words + n) c.args.area.now (omega arith) ∙ e)
    (c.fill.ensures.after (λ y q. search rules)) (omega (arith, c.told-area, c.requires))
