use Rattle.snapshot.specs.Records.{extern_at}
use Rattle.told_paths.proofs.told_routes.Laws.{answers_extern}
use Rattle.told_paths.proofs.told_routes.names.by_extern.Goals as goal

pub returns : goal.returns
returns c =
    answers_extern (extern_at c.args.words.now c.args.h) _ c.extern_target-m.ensures
