use mathlib.Core.Path.{ap}
use Rattle.snapshot.specs.Records.{prelude_at}
use Rattle.hir_def.specs.Entries.{entry_of}
use Rattle.find_path_local.proofs.distances.Lowering.{lowers_same}
use Rattle.find_path_local.proofs.distances.Marking.{no_prelude_lem, one_prelude}
use Rattle.find_path_local.proofs.distances.mark_prelude.Goals as goal

pub returns-in_default : goal.returns-in_default
returns-in_default c =
    let W = c.args.records.now.words.now in
    let A = c.args.area.now in (
      lowers_same A,
      no_prelude_lem W A c.args.records.now.layout c.args.from.0 c.map.ensures (c.prelude_of-p.ensures A)
          (ap (entry_of prelude_at W) c.in_default.is),
    )

pub returns : goal.returns
returns c =
    let W = c.args.records.now.words.now in
    let A = c.args.area.now in (
      c.mark_scope.ensures.0,
      one_prelude W A c.args.records.now.layout c.args.from.0 (prelude_at W c.in-Some.h) c.mark_scope.new.area
          c.map.ensures (c.prelude_of-p.ensures A)
          (ap (entry_of prelude_at W) c.in-Some.is) c.prelude_target.ensures c.mark_scope.ensures.1,
    )
