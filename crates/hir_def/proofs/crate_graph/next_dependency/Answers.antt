use Rattle.std.proofs.Common.{rules}
use Rattle.snapshot.specs.Records.{dependency_at}
use Rattle.hir_def.proofs.Searches.{next_in, only_agree}
use Rattle.hir_def.proofs.Parts.{dependency_owner, dependencies_inside}
use Rattle.hir_def.specs.crate_graph.Among.{among}
use Rattle.hir_def.proofs.crate_graph.Others.{others_among}
use Rattle.hir_def.proofs.crate_graph.next_dependency.Goals as goal

pub returns : goal.returns
returns c =
    let W = c.args.db.now.records.words.now in
    let q = among c.args.c.0 c.args.which in
    next_in q dependency_at W c.dependencies.ensures
    (only_agree (dependency_owner W) c.args.c.0 q (dependency_at W) _ (λ h. others_among c.args.c.0 c.args.which (dependency_at W h))
    (λ h t p. search rules)) _ _
    (c.next_within.ensures (dependency_owner W) c.args.c.0
    (dependencies_inside W c.args.db.now.area.now c.args.db.now.records.layout c.args.db.now.reads c.args.c.0 c.part_of-part.result
    c.dependencies.ensures c.part_of-part.ensures))
