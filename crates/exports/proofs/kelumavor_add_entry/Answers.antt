use mathlib.Core.Path.{subst}
use Rattle.edit_rules.specs.Entries.{entry_of}
use Rattle.edit_rules.specs.Edits.{adding}
use Rattle.edits.specs.Edits.{EditsIn}
use Rattle.exports.proofs.kelumavor_add_entry.Goals as goal

pub returns : goal.returns
returns c =
    let a = c.args in
    subst (EditsIn a.words.now a.count.now a.area.now (adding (entry_of a.entry.now)) c.add_entry-r.new.words c.add_entry-r.new.area)
    c.tell.ensures c.add_entry-r.ensures
