use Rattle.check_records.proofs.item_records.externs.defined.Goals as goal

pub returns : goal.returns
returns c =
    rw (c.extern_target-target.ensures, c.extern_name-name.ensures, c.extern_owner-owner.ensures)
