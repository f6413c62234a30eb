use Rattle.check_records.proofs.item_records.scopes.defined.Goals as goal

pub returns : goal.returns
returns c =
    rw (
      c.scope_number-number.ensures,
      c.scope_visibility-visibility.ensures,
      c.scope_definition-definition.ensures,
      c.scope_name-name.ensures,
      c.scope_owner-owner.ensures,
    )
