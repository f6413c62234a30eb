use Rattle.told_paths.proofs.arrivals.Means.{ready_few}
use Rattle.told_paths.proofs.shortest_paths.Laws.{leads_link}
use Rattle.told_paths.proofs.shortest_paths.told.arrival_told.Goals as goal

pub tell-requires : goal.tell-requires
tell-requires c = (
  ready_few c.args.view.now _ c.requires,
  leads_link _ _ _
      _ _ _ _ c.arrive-step.ensures,
  c.requires.rows.linked,
)

pub returns : goal.returns
returns c = record { value = c.tell.ensures.value _ _ _ _ c.arrive-step.ensures; count_bound = c.tell.ensures.count_bound }
