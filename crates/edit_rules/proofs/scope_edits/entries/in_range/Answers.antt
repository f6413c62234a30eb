use Rattle.edit_rules.proofs.scope_edits.entries.in_range.Goals as goal

pub returns : goal.returns
returns c =
    rw (c.word-3.ensures, c.word-2.ensures, c.word.ensures, c.word-number.ensures, c.word-visibility.ensures)
