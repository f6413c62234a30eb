use Rattle.edit_rules.proofs.scope_edits.Numbers.{entry_judged}
use Rattle.edit_rules.proofs.scope_edits.entries.entry_fault.Goals as goal

pub returns : goal.returns
returns c A =
    entry_judged c.args.words.now A c.args.l c.args.entry.now c.judge.ensures c.in_range.ensures
    c.defined.ensures
    c.word-ns.ensures c.word-definition.ensures c.ns_placed-placed.ensures
