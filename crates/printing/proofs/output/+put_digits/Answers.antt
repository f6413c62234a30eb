use Rattle.std.proofs.Common.{◌-◌, ◌/◌, arith}
use Rattle.printing.proofs.Laws.{put_none, put_as, put_two, length_decimal, decimal_none, decimal_last, decimal_more}
use Rattle.printing.proofs.output.+put_digits.Goals as goal

pub returns-then-most-eq0 : goal.returns-then-most-eq0
returns-then-most-eq0 t c = put_as (decimal_none c.args.most c.args.n c.if-most-eq0.true) (put_none c.args.out.now c.args.at)

pub returns-then-n-lt10 : goal.returns-then-n-lt10
returns-then-n-lt10 t c = put_as (decimal_last _ _ (omega arith) (omega arith)) c.put_digit.ensures

pub put_digit-requires-2 : goal.put_digit-requires-2
put_digit-requires-2 t c =
    let h = length_decimal (c.args.most - 1) (c.args.n / 10) in
    (omega arith, omega arith)

pub returns : goal.returns
returns t c = put_as (decimal_more c.args.most c.args.n (omega arith) (omega arith)) (put_two c.put_digits-to.ensures c.put_digit-2.ensures)
