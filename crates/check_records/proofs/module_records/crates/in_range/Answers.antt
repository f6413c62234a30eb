use Rattle.check_records.proofs.module_records.crates.in_range.Goals as goal

pub returns : goal.returns
returns c = rw (c.crate_no_std.ensures, c.crate_origin.ensures)
