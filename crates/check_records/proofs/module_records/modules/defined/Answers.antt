use Rattle.check_records.proofs.module_records.modules.defined.Goals as goal

pub returns : goal.returns
returns c = rw (c.module_parent.ensures, c.module_map.ensures)
