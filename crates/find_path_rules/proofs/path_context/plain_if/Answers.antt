use Rattle.find_path_rules.proofs.path_context.ContextLaws.{plain_block, plain_other}
use Rattle.find_path_rules.proofs.path_context.plain_if.Goals as goal

pub returns-then-block : goal.returns-then-block
returns-then-block c = plain_block _ c.args.prefix c.if-block.true

pub returns : goal.returns
returns c = plain_other c.args.block _ c.if-block.false
