use mathlib.Core.Path.{◌∙◌}
use Rattle.module_tree.proofs.Reading.{parent_read}
use Rattle.module_tree.proofs.modules.parent.Goals as goal

pub returns : goal.returns
returns c =
    c.opt_module.ensures ∙ c.module_parent.ensures ∙ parent_read c.args.db.now.records.words.now c.args.db.now.area.now c.args.db.now.records.layout
    c.args.db.now.reads.tables c.args.m.0 c.requires
