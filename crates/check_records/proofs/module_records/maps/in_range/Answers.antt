use Rattle.check_records.proofs.module_records.maps.in_range.Goals as goal

pub returns : goal.returns
returns c = rw c.map_no_std.ensures
