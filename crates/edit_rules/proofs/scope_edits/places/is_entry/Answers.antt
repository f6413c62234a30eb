use Rattle.edit_rules.proofs.scope_edits.places.is_entry.Goals as goal

pub returns : goal.returns
returns c =
    rw (c.scope_ns.ensures, c.scope_name-called.ensures, c.scope_owner-holder.ensures, c.kind.ensures)
