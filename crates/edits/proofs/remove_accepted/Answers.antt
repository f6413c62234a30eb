use mathlib.Core.Path.{sym}
use native.Mathlib.Omega.{arith}
use lib.ListN.{take}
use lib.Seq.{length-take-le}
use Rattle.edit_rules.proofs.scope_edits.Split.{verdict_records}
use Rattle.edits.proofs.Laws.{removed_not, removed_fits, removed_done}
use Rattle.edits.proofs.remove_accepted.Goals as goal

pub slice_bounds-entry_place-end-2 : goal.slice_bounds-entry_place-end-2
slice_bounds-entry_place-end-2 c = sym (length-take-le _ c.args.words.now c.requires.0)

pub entry_place-at-requires : goal.entry_place-at-requires
entry_place-at-requires c = (verdict_records (take c.args.count c.args.words.now) c.requires.1.0
    c.requires.1.1).0

pub returns-then-count-at : goal.returns-then-count-at
returns-then-count-at c =
    removed_not c.args.words.now c.args.count c.requires.0 c.requires.1.0 c.requires.1.1 _ _ _ _ c.entry_place-at.ensures
    (omega (arith, c.if-count-at.true))

pub remove-requires : goal.remove-requires
remove-requires c = (
  removed_fits c.args.words.now c.args.count c.requires.0 c.requires.1.0 c.requires.1.1 _ _ _ _ c.entry_place-at.ensures
      c.if-count-at.false,
  c.requires.0,
)

pub overflow_sub-result : goal.overflow_sub-result
overflow_sub-result c =
    let f = removed_fits c.args.words.now c.args.count c.requires.0 c.requires.1.0 c.requires.1.1 _ _ _ _
    c.entry_place-at.ensures c.if-count-at.false in
    omega (arith, f)

pub returns : goal.returns
returns c =
    removed_done c.args.words.now c.args.count c.requires.0 c.requires.1.0 c.requires.1.1 _ _ _ _ c.entry_place-at.ensures
    c.remove.new.words c.if-count-at.false c.remove.ensures
