use Rattle.edit_rules.proofs.scope_edits.entries.defined.Goals as goal

pub returns : goal.returns
returns c =
    rw (
      c.word-number.ensures,
      c.word-visibility.ensures,
      c.word-definition.ensures,
      c.word-name.ensures,
      c.word-owner.ensures,
    )
