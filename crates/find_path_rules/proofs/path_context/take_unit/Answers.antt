use Rattle.find_path_spec.specs.Conditions.{charged_by}
use Rattle.find_path_rules.proofs.path_context.ContextLaws.{charge_stops, charge_goes}
use Rattle.find_path_rules.proofs.path_context.take_unit.Goals as goal

pub returns-then-fuel-eq0 : goal.returns-then-fuel-eq0
unfolding charged_by
returns-then-fuel-eq0 c =
    charge_stops c.args.left c.args.sought c.args.t _ c.drained.ensures c.if-fuel-eq0.true

pub returns : goal.returns
unfolding charged_by
returns c =
    charge_goes c.args.left c.args.sought c.args.t c.if-fuel-eq0.false
