-- Which lists words with their layout stand for.
use Rattle.std.specs.Prelude.{ℕ, List}
use Rattle.snapshot.specs.Records.{Snapshot}
use Rattle.snapshot.specs.Layouts.{snap_of}
use Rattle.snapshot.specs.declared.records.Records.{Records}

-- the lists, by the tables of an area
abbrev pub snap_by : Records → List ℕ → Snapshot
snap_by r A = snap_of r.words.now A r.layout
