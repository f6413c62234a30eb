use Rattle.find_path_rules.proofs.path_context.ContextLaws.{drained_again, drained_first}
use Rattle.find_path_rules.proofs.path_context.drained.Goals as goal

pub returns-then-t : goal.returns-then-t
returns-then-t c =
    drained_again c.args.left c.args.sought c.args.t c.if-t.true

pub returns : goal.returns
returns c =
    drained_first c.args.left c.args.sought c.args.t c.if-t.false
