use mathlib.Core.Path.{subst}
use Rattle.edit_rules.specs.Edits.{removing}
use Rattle.edits.specs.Edits.{EditsIn}
use Rattle.exports.proofs.kelumavor_remove_entry.Goals as goal

pub returns : goal.returns
returns c =
    let a = c.args in
    subst (EditsIn a.words.now a.count.now a.area.now (removing a.owner a.ns a.name) c.remove_entry-r.new.words c.remove_entry-r.new.area)
    c.tell.ensures c.remove_entry-r.ensures
