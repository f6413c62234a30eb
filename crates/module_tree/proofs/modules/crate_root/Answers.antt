use mathlib.Core.Path.{ap, ◌∙◌}
use Rattle.snapshot.specs.Layouts.{snap_of}
use Rattle.module_tree.specs.rules.Modules.{root_of, own_map, crate_root}
use Rattle.module_tree.proofs.Reading.{crate_there}
use Rattle.module_tree.proofs.modules.crate_root.Goals as goal

pub own-requires : goal.own-requires
own-requires c =
    rw c.krate-c.ensures (crate_there c.args.db.now.records.words.now c.args.db.now.area.now c.args.db.now.records.layout c.args.db.now.reads
    c.args.m.0 c.requires)

pub returns : goal.returns
unfolding crate_root
returns c =
    let n = snap_of c.args.db.now.records.words.now c.args.db.now.area.now c.args.db.now.records.layout in
    c.root.ensures ∙ ap (root_of n) (c.own.ensures.0 ∙ ap (own_map n) c.krate-c.ensures)
