use mathlib.Core.Path.{ap, ◌∙◌}
use Rattle.find_path_spec.specs.Meters.{from_tank}
use Rattle.find_path_rules.proofs.path_context.charge.Goals as goal

pub returns : goal.returns
returns c =
    let s = c.args in
    c.take_unit.ensures ∙ ap (λ n. from_tank s.left n s.t) c.sought_of.ensures
