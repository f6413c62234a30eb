use mathlib.Core.Path.{◌∙◌}
use Rattle.module_tree.proofs.Reading.{root_read}
use Rattle.module_tree.proofs.modules.root.Goals as goal

pub returns : goal.returns
returns c =
    c.map_root.ensures ∙ root_read c.args.db.now.records.words.now c.args.db.now.area.now c.args.db.now.records.layout c.args.db.now.reads.tables
    c.args.map c.requires
