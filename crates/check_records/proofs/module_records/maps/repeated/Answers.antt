use Rattle.check_records.proofs.module_records.maps.repeated.Goals as goal

pub returns : goal.returns
returns c = rw (c.own_map.ensures, c.map_crate.ensures, c.map_block.ensures)
