use mathlib.Core.Path.{ap, ◌∙◌}
use Rattle.snapshot.specs.Records.{map_at}
use Rattle.module_tree.proofs.Reading.{block_read}
use Rattle.module_tree.proofs.modules.block.Goals as goal

pub returns : goal.returns
returns c =
    c.opt_module.ensures ∙ c.map_block.ensures ∙ ap (λ h. (map_at c.args.db.now.records.words.now h).block)
    c.module_head.ensures ∙ block_read c.args.db.now.records.words.now c.args.db.now.area.now c.args.db.now.records.layout
    c.args.db.now.reads.tables c.args.m.0 c.requires
