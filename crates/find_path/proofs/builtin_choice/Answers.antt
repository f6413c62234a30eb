use Rattle.find_path.proofs.Starts.{builtin_at, builtin_name, builtin_same}
use Rattle.find_path.proofs.builtin_choice.Goals as goal

pub step_by-via-requires : goal.step_by-via-requires
step_by-via-requires c =
    let db = c.args.db.now in
    builtin_at db.records.words.now db.area.now db.records.layout db.reads c.args.d.0 c.requires.0 c.requires.1
    (c.definition_head-h.ensures db.area.now)

pub new-requires : goal.new-requires
new-requires c =
    let db = c.args.db.now in
    builtin_name db.records.words.now db.area.now db.records.layout db.reads c.args.d.0 c.requires.0 c.requires.1
    (c.definition_head-h.ensures db.area.now) c.definition_first.ensures

pub returns : goal.returns
returns c =
    let db = c.args.db.now in
    builtin_same db.records.words.now db.area.now db.records.layout db.reads c.args.d.0 c.requires.0 c.requires.1
    (c.definition_head-h.ensures db.area.now) c.definition_first.ensures c.step_by-via.ensures
    c.new.ensures
