use Rattle.accept.specs.Opened.{snap_in}
use Rattle.find_path_choice.specs.Given.{chosen}
use Rattle.find_path_local.proofs.tight_rows.Keeping.{row_entry, row_choice}
use Rattle.find_path_local.proofs.tight_rows.from_row.Goals as goal

pub push-requires : goal.push-requires
push-requires c = (
  row_entry c.args.db.now.records.words.now c.args.db.now.records.layout c.row_place-h.ensures c.scope_name-n.ensures c.requires.1,
  c.requires.2,
  c.requires.3,
  c.requires.4,
)

pub returns : goal.returns
returns c =
    row_choice (snap_in c.args.db.now) c.args.db.now.records.words.now (chosen c.args.c) c.args.row
    c.row_place-h.ensures c.scope_name-n.ensures c.step_by-via.ensures c.push.ensures c.flagged.ensures
