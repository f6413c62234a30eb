use mathlib.Core.Path.{ap, ◌∙◌}
use Rattle.snapshot.specs.Records.{map_at}
use Rattle.module_tree.proofs.Reading.{crate_read}
use Rattle.module_tree.proofs.modules.krate.Goals as goal

pub returns : goal.returns
returns c =
    c.map_crate.ensures ∙ ap (λ h. (map_at c.args.db.now.records.words.now h).crate) c.module_head.ensures
    ∙ crate_read c.args.db.now.records.words.now c.args.db.now.area.now c.args.db.now.records.layout c.args.db.now.reads.tables c.args.m.0 c.requires
