use borrow.Author.Tests.{lt-ltb, le-ltb}
use Rattle.imports.proofs.order.sort.second_first.Goals as goal

pub returns-then-end-second : goal.returns-then-end-second
returns-then-end-second c = rw (le-ltb _ _ c.if-end-second.true)

pub returns : goal.returns
returns c =
    rw (lt-ltb _ _ c.if-end-second.false) (rw (c.word.ensures, c.word-2.ensures) at
    c.entry_before.ensures)
