use Rattle.streams.proofs.case_text.Laws.{stop_found, stop_none}
use Rattle.streams.proofs.case_text.text.next_stop.Goals as goal

pub returns-in-Some : goal.returns-in-Some
returns-in-Some c = let e = c.in-Some.ensures in stop_found _ _ _ c.requires _ e.0 e.1 e.2

pub returns-in-None : goal.returns-in-None
returns-in-None c = stop_none _ _ _ c.requires c.in-None.ensures
