use Rattle.check_records.proofs.item_records.members.defined.Goals as goal

pub returns : goal.returns
returns c =
    rw (c.member_definition-definition.ensures, c.member_name-name.ensures, c.member_parent-parent.ensures)
