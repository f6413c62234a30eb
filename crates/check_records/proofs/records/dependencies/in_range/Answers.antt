use Rattle.check_records.proofs.records.dependencies.in_range.Goals as goal

pub returns : goal.returns
returns c = rw c.dependency_sysroot.ensures
