use mathlib.Core.Path.{◌∙◌}
use Rattle.module_tree.proofs.Reading.{map_read}
use Rattle.module_tree.proofs.modules.map.Goals as goal

pub returns : goal.returns
returns c =
    c.module_map.ensures ∙ map_read c.args.db.now.records.words.now c.args.db.now.area.now c.args.db.now.records.layout c.args.db.now.reads.tables
    c.args.m.0 c.requires
