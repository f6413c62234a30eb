use borrow.Author.Rules.{rules}
use mathlib.Core.Path.{◌≡◌, sym}
use native.Mathlib.Omega.{arith}
use lib.ListN.{length}
use Rattle.reports.proofs.Laws.{written, not_written}
use Rattle.reports.proofs.write_report.Goals as goal

pub returns-then-out-lt-COUNT : goal.returns-then-out-lt-COUNT
returns-then-out-lt-COUNT c = not_written c.args.report c.args.out.now c.if-out-lt-COUNT.true

pub put_words-requires-2 : goal.put_words-requires-2
put_words-requires-2 c =
    let h : 16 ≡ length c.args.report.names =
    search rules in
    omega (
      arith,
      h,
      c.if-out-lt-COUNT.false,
      c.put_words.auto.out,
    )

pub put_words-requires-4 : goal.put_words-requires-4
put_words-requires-4 c =
    let h : 17 ≡ length c.args.report.route = search rules in
    omega (
      arith,
      h,
      c.if-out-lt-COUNT.false,
      c.put_words.auto.out,
      c.put_words-2.auto.out,
      c.put_words-3.auto.out,
    )

pub returns : goal.returns
returns c =
    let s = c.args in
    let h : 16 ≡ length s.report.names = search rules in
    let k : 17 ≡ length s.report.route = search rules in
    written s.report s.out.now _ _ _ _
    c.if-out-lt-COUNT.false (sym h) (sym k)
    c.put_words.ensures
    c.put_words-2.ensures
    c.put_words-3.ensures c.put_words-4.ensures
