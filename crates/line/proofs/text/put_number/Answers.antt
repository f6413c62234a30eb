use borrow.Author.Rules.{rules}
use native.Mathlib.Omega.{arith}
use Rattle.line.proofs.Laws.{number_text}
use Rattle.printing.proofs.Laws.{put_as, length_decimal}
use Rattle.line.proofs.text.put_number.Goals as goal

pub returns : goal.returns
returns c = let p = c.put_digits.ensures in
    let h = length_decimal 20 c.args.n in
    record { put = put_as (number_text c.args.n (search rules)) p; upper_bound = omega (arith, p.next, h) }
