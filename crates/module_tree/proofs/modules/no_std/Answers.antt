use mathlib.Core.Path.{ap, ◌∙◌}
use lib.Dec.{eqb}
use Rattle.snapshot.specs.Records.{map_at}
use Rattle.module_tree.proofs.Reading.{no_std_read}
use Rattle.module_tree.proofs.modules.no_std.Goals as goal

pub returns : goal.returns
returns c =
    ap (λ x. eqb x 1)
    (c.map_no_std.ensures ∙ ap (λ h. (map_at c.args.db.now.records.words.now h).no_std) c.module_head.ensures
    ∙ no_std_read c.args.db.now.records.words.now c.args.db.now.area.now c.args.db.now.records.layout c.args.db.now.reads.tables c.args.m.0
    c.requires)
