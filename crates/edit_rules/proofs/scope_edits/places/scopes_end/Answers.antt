use borrow.Author.Tests.{lt-ltb, le-ltb}
use mathlib.Core.Path.{sym, ap, ◌∙◌}
use lib.Dec.{ltb}
use native.Mathlib.Omega.{arith}
use Rattle.accept.proofs.Turns.{arguments_few}
use Rattle.edit_rules.specs.Entries.{is_later}
use Rattle.edit_rules.proofs.scope_edits.Walked.{end_start, walk_stop, walk_on, walk_end_lem}
use Rattle.edit_rules.proofs.scope_edits.places.scopes_end.Goals as goal

pub loop-at-init : goal.loop-at-init
loop-at-init c = end_start _

pub returns-then-kind : goal.returns-then-kind
returns-then-kind c =
    let W = c.args.words.now in
    walk_stop (is_later W) W _ c.loop-at.at c.loop-at.invariant (ap (ltb 9) (sym c.kind.ensures) ∙ lt-ltb 9 _ c.if-kind.true)

pub overflow_add-at-in-loop-at : goal.overflow_add-at-in-loop-at
overflow_add-at-in-loop-at c = omega (arith, c.loop-at-test.true, c.requires, arguments_few c.args.words.now _ _ c.arguments.ensures)

pub loop-at-preserved : goal.loop-at-preserved
loop-at-preserved c =
    let W = c.args.words.now in
    walk_on (is_later W) W _ c.loop-at.at c.loop-at.invariant c.loop-at-test.true
    (ap (ltb 9) (sym c.kind.ensures) ∙ le-ltb 9 _ c.if-kind.false) c.arguments.ensures

pub returns : goal.returns
returns c =
    let W = c.args.words.now in
    walk_end_lem (is_later W) W _ c.loop-at.at c.loop-at.invariant c.loop-at-test.false
