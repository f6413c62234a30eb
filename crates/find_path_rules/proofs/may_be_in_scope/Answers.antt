use mathlib.Core.Path.{ap}
use mathlib.Core.Bool.{not, ◌||◌}
use lib.Dec.{eqb}
use Rattle.find_path_spec.specs.Rules.{may_be_in_scope}
use Rattle.find_path_rules.proofs.may_be_in_scope.Goals as goal

pub returns : goal.returns
unfolding may_be_in_scope
returns c = λ s. ap (λ z. not (eqb c.args.x.prefix 2) || z) c.eq.ensures
