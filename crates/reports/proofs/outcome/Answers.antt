use mathlib.Core.Path.{sym, ap, ap₂}
use mathlib.Core.Bool.{Bool}
use Rattle.find_path_spec.specs.Report.{outcome_by, flag}
use Rattle.reports.proofs.outcome.Goals as goal

pub returns-then-misleads : goal.returns-then-misleads
unfolding outcome_by
returns-then-misleads c = sym (ap (λ (b : Bool). outcome_by b c.args.found) c.if-misleads.true)

pub returns-then-found : goal.returns-then-found
unfolding outcome_by flag
returns-then-found c = sym (ap₂ outcome_by c.if-misleads.false c.if-found.true)

pub returns : goal.returns
unfolding outcome_by flag
returns c = sym (ap₂ outcome_by c.if-misleads.false c.if-found.false)
