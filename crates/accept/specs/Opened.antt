-- Which lists an accepted snapshot stands for.
use Rattle.snapshot.specs.Records as lists
use Rattle.snapshot.specs.Laid.{snap_by}
use Rattle.accept.specs.declared.opened.Snapshot.{Snapshot}

abbrev pub snap_in : Snapshot → lists.Snapshot
snap_in s = snap_by s.records s.area.now
