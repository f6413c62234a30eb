use Rattle.check_records.proofs.item_records.scopes.in_range.Goals as goal

pub returns : goal.returns
returns c =
    rw (
      c.scope_bits.ensures,
      c.scope_declared.ensures,
      c.scope_ns.ensures,
      c.scope_number-number.ensures,
      c.scope_visibility-visibility.ensures,
    )
