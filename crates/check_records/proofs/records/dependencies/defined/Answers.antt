use Rattle.check_records.proofs.records.dependencies.defined.Goals as goal

pub returns : goal.returns
returns c =
    rw (c.dependency_crate-krate.ensures, c.dependency_owner-owner.ensures)
