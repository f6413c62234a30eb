use Prim.Native.Nat.{◌+◌, ◌-◌}
use mathlib.Core.Path.{refl, sym, ap, ◌∙◌}
use mathlib.Core.List.{◌++◌}
use lib.ListN.{length, take, replicate}
use lib.Seq.{length-take-le}
use Rattle.check_rules.proofs.Exits.{err_is}
use Rattle.snapshot.proofs.Laws.{refusal_some}
use Rattle.snapshot.specs.Sizes.{scope_size}
use Rattle.edit_rules.specs.Entries.{entry_of, inserted}
use Rattle.edits.proofs.Laws.{record_long, added_not, added_head, added_fits, added_done}
use Rattle.edits.proofs.add_accepted.Goals as goal

pub slice_bounds-add_fault-end-2 : goal.slice_bounds-add_fault-end-2
slice_bounds-add_fault-end-2 c = sym (length-take-le _ c.args.words.now c.requires.0)

pub returns-in_err-add_fault : goal.returns-in_err-add_fault
returns-in_err-add_fault c =
    let r = c.requires.1.1 in
    rw (err_is _ _ c.from_residual.ensures.1) (added_not c.args.words.now c.args.count c.requires.0 _ r.same (entry_of c.args.entry.now) _
    (c.in_err-add_fault.ensures c.requires.1.0 r) (refusal_some _))

pub slice_bounds-scopes_end-end-2 : goal.slice_bounds-scopes_end-end-2
slice_bounds-scopes_end-end-2 c = sym (length-take-le _ c.args.words.now c.requires.0)

pub record_of-added-requires : goal.record_of-added-requires
record_of-added-requires c =
    let r = c.requires.1.1 in
    added_head c.args.words.now c.args.count c.requires.0 _ r.same (entry_of c.args.entry.now) _
    (c.in_ok-add_fault.ensures c.requires.1.0 r) refl

pub insert-requires : goal.insert-requires
insert-requires c =
    let r = c.requires.1.1 in
    let q =
    added_fits c.args.words.now c.args.count c.requires.0 _ r.same (entry_of c.args.entry.now) _
    (c.in_ok-add_fault.ensures c.requires.1.0 r) refl _
    c.scopes_end-at.ensures in
    (q.0, q.1, record_long (entry_of c.args.entry.now) _ c.record_of-added.ensures)

pub returns : goal.returns
returns c =
    let r = c.requires.1.1 in
    let W = c.args.words.now in
    added_done W c.args.count c.requires.0 _ r.same (entry_of c.args.entry.now) _ (c.in_ok-add_fault.ensures c.requires.1.0 r)
    c.insert.new.words _ refl
    c.scopes_end-at.ensures
    (c.insert.ensures
    ∙ ap (λ y. inserted c.scopes_end-at.result y (take c.args.count W) ++ replicate (length W - (c.args.count + scope_size)) 0)
    c.record_of-added.ensures)
