use mathlib.Core.Path.{refl}
use borrow.Author.Tests.{lt-ltb, le-ltb}
use Rattle.check_rules.proofs.Exits.{err_is}
use Rattle.snapshot.proofs.Laws.{refusal_some}
use Rattle.edit_rules.proofs.scope_edits.Numbers.{add_faulted, number_entry, number_47, number_48, number_0}
use Rattle.edit_rules.proofs.scope_edits.entries.add_fault.Goals as goal

pub returns-in_err-entry_fault : goal.returns-in_err-entry_fault
returns-in_err-entry_fault c A r =
    rw (err_is _ _ c.from_residual.ensures.1)
    (add_faulted c.args.words.now A c.args.l c.args.entry.now c.args.slice r (number_entry _ _ _ (refusal_some _))
    (c.in_err-entry_fault.ensures A) c.entry_place.ensures
    c.word-owner.ensures c.word-ns.ensures c.word-name.ensures)

pub returns-then-there : goal.returns-then-there
returns-then-there c A r =
    add_faulted c.args.words.now A c.args.l c.args.entry.now c.args.slice r (number_47 _ _ _ refl (lt-ltb _ _ c.if-there.true))
    (c.in_ok-entry_fault.ensures A) c.entry_place.ensures
    c.word-owner.ensures c.word-ns.ensures c.word-name.ensures

pub returns-then-not-room : goal.returns-then-not-room
returns-then-not-room c A r =
    add_faulted c.args.words.now A c.args.l c.args.entry.now c.args.slice r
    (number_48 _ _ _ refl (le-ltb _ _ c.if-there.false) c.if-not-room.true)
    (c.in_ok-entry_fault.ensures A) c.entry_place.ensures
    c.word-owner.ensures c.word-ns.ensures c.word-name.ensures

pub returns : goal.returns
returns c A r =
    add_faulted c.args.words.now A c.args.l c.args.entry.now c.args.slice r
    (number_0 _ _ _ refl (le-ltb _ _ c.if-there.false) c.if-not-room.false)
    (c.in_ok-entry_fault.ensures A) c.entry_place.ensures
    c.word-owner.ensures c.word-ns.ensures c.word-name.ensures
