use Rattle.hir_def.specs.Tests.{FirstBy}
use Rattle.hir_def.proofs.Searches.{met_by, none_first_by}
use Rattle.hir_def.proofs.chain.first_in_chain.Goals as goal

pub returns : goal.returns
unfolding FirstBy
returns g c = (c.in_ok-found.found.number, met_by _ _ _ _ _ c.next_in_chain.ensures c.in_ok-found.was)

pub returns-in_err-found : goal.returns-in_err-found
returns-in_err-found g c = none_first_by _ _ _ _ c.next_in_chain.ensures c.in_err-found.was c.from_residual.ensures
