use Rattle.check_rules.proofs.Exits.{err_is}
use Rattle.edits.proofs.Laws.{edit_not, edit_done}
use Rattle.edits.proofs.remove_entry.Goals as goal

pub returns-in_err-opened : goal.returns-in_err-opened
returns-in_err-opened c =
    let q = c.in_err-opened.ensures in
    rw (err_is _ _ c.from_residual.ensures.1) (edit_not c.args.words.now c.args.area.now c.args.count _ q.area_after _ _ q.opens)

pub remove_accepted-requires : goal.remove_accepted-requires
remove_accepted-requires c = let q = c.in_ok-opened.ensures.opens.1 in (q.0, (_, q.1.1.same))

pub returns : goal.returns
returns c =
    let q = c.in_ok-opened.ensures in
    edit_done c.args.words.now c.args.area.now c.args.count _ q.area_after _ _ q.opens _ _ c.remove_accepted.ensures
