use mathlib.Core.Path.{sym, ◌∙◌}
use native.Mathlib.Omega.{arith}
use Rattle.accept.proofs.Turns.{arguments_few}
use Rattle.edit_rules.specs.Entries.{is_named, is_entry}
use Rattle.edit_rules.proofs.scope_edits.Walked.{entry_start, walk_stop, walk_on, walk_end_lem}
use Rattle.edit_rules.proofs.scope_edits.places.entry_place.Goals as goal

pub loop-at-init : goal.loop-at-init
loop-at-init c = entry_start _ _

pub returns-then-is_entry : goal.returns-then-is_entry
returns-then-is_entry c =
    let a = c.args in
    let W = a.words.now in
    walk_stop (is_entry (is_named a.key.owner a.key.ns a.key.name) W) W _ c.loop-at.at c.loop-at.invariant
    (sym c.is_entry.ensures ∙ c.if-is_entry.true)

pub overflow_add-at-in-loop-at : goal.overflow_add-at-in-loop-at
overflow_add-at-in-loop-at c = omega (arith, c.loop-at-test.true, c.requires, arguments_few c.args.words.now _ _ c.arguments.ensures)

pub loop-at-preserved : goal.loop-at-preserved
loop-at-preserved c =
    let a = c.args in
    let W = a.words.now in
    walk_on (is_entry (is_named a.key.owner a.key.ns a.key.name) W) W _ c.loop-at.at c.loop-at.invariant c.loop-at-test.true
    (sym c.is_entry.ensures ∙ c.if-is_entry.false) c.arguments.ensures

pub returns : goal.returns
returns c =
    let a = c.args in
    let W = a.words.now in
    walk_end_lem (is_entry (is_named a.key.owner a.key.ns a.key.name) W) W _ c.loop-at.at c.loop-at.invariant c.loop-at-test.false
