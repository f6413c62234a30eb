use Rattle.check_records.proofs.item_records.imports.in_range.Goals as goal

pub returns : goal.returns
returns c = rw (c.import_bits.ensures, c.import_ns.ensures)
