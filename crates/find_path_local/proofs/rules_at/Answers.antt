use Rattle.find_path_local.specs.distances.Distances.{distance}
use Rattle.find_path_local.proofs.Searches.{rules_far}
use Rattle.snapshot.specs.Laid.{snap_by}
use Rattle.find_path_local.proofs.rules_at.Goals as goal

pub returns-then-word-gt1 : goal.returns-then-word-gt1
returns-then-word-gt1 c =
    let A = c.args.db.now.area.now in
    rules_far (snap_by c.args.db.now.records A) c.args.x c.args.db.now.records.layout.modules (distance A) c.args.m.0
    c.requires.2 c.requires.1 c.word.ensures
    c.if-word-gt1.true
