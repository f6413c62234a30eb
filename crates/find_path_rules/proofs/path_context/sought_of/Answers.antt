use Rattle.find_path_rules.proofs.path_context.ContextLaws.{sought_own, sought_other}
use Rattle.find_path_rules.proofs.path_context.sought_of.Goals as goal

pub returns-then-m-x : goal.returns-then-m-x
returns-then-m-x c =
    sought_own c.args.x c.args.item _ c.module_in-m.ensures c.if-m-x.true

pub returns : goal.returns
returns c =
    sought_other c.args.x c.args.item _ c.module_in-m.ensures c.if-m-x.false
