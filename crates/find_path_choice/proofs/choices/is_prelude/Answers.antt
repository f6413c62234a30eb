use Rattle.find_path_choice.proofs.ChoiceLaws.{name_prelude}
use Rattle.find_path_choice.proofs.choices.is_prelude.Goals as goal

pub returns : goal.returns
returns c =
    rw (
      c.payload.ensures,
      c.field-third.ensures,
      c.field-second.ensures,
      c.field-first.ensures,
      c.name_head-h.ensures,
    )
    (name_prelude c.args.db.now.records.words.now c.args.db.now.area.now c.args.db.now.records.layout c.args.db.now.reads c.args.n.0 c.requires)
