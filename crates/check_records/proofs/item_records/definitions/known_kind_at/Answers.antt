use Rattle.check_records.proofs.item_records.definitions.known_kind_at.Goals as goal

pub returns : goal.returns
returns c = rw (c.of.ensures, c.kind_at.ensures)
