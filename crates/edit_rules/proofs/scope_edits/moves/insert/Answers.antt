use mathlib.Core.Path.{◌∙◌}
use Rattle.edit_rules.proofs.scope_edits.Shifted.{insert_done}
use Rattle.edit_rules.proofs.scope_edits.moves.insert.Goals as goal

pub returns : goal.returns
returns c =
    insert_done c.args.words.now c.args.added.now c.move_up.new.words c.put_record.new.words c.clear.new.area
    c.args.at c.args.count c.requires.0 c.requires.1 c.requires.2
    c.move_up.ensures c.put_record.ensures (c.put_record.auto.words ∙ c.move_up.auto.words) c.clear.auto.area c.clear.ensures
