use Rattle.check_records.proofs.records.children.defined.Goals as goal

pub returns : goal.returns
returns c =
    rw (c.child_child-child.ensures, c.child_owner-owner.ensures)
