use Rattle.check_records.proofs.item_records.definitions.kind_at.Goals as goal

pub returns : goal.returns
returns c = rw (c.definition_kind.ensures, c.definition_base.ensures)
