use Rattle.check_records.proofs.module_records.crates.edition_known.Goals as goal

pub returns : goal.returns
returns c = rw c.crate_edition-e.ensures
