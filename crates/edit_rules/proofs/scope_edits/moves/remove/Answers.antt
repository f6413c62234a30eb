use Rattle.edit_rules.proofs.scope_edits.Shifted.{remove_done}
use Rattle.edit_rules.proofs.scope_edits.moves.remove.Goals as goal

pub returns : goal.returns
returns c =
    remove_done c.args.words.now c.move_down.new.words c.clear.new.area c.args.at c.args.count c.requires.0
    c.requires.1 c.move_down.ensures c.move_down.auto.words c.clear.auto.area c.clear.ensures
