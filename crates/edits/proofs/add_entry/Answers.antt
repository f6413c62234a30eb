use Rattle.check_rules.proofs.Exits.{err_is}
use Rattle.edits.proofs.Laws.{edit_not, edit_done}
use Rattle.edits.proofs.add_entry.Goals as goal

pub returns-in_err-l : goal.returns-in_err-l
returns-in_err-l c =
    let q = c.in_err-l.ensures in
    rw (err_is _ _ c.from_residual.ensures.1) (edit_not c.args.words.now c.args.area.now c.args.count _ q.area_after _ _ q.opens)

pub add_accepted-requires : goal.add_accepted-requires
add_accepted-requires c = c.in_ok-l.ensures.opens.1

pub returns : goal.returns
returns c =
    let q = c.in_ok-l.ensures in
    edit_done c.args.words.now c.args.area.now c.args.count _ q.area_after _ _ q.opens _ _ c.add_accepted.ensures
