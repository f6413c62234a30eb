-- What holds where all the records are read, before the tests that come after the last.
use Rattle.std.specs.Prelude.{ℕ, ◌≡◌, List, length, Ok, Err}
use Rattle.snapshot.specs.Refusals.{refusal_number}
use Rattle.snapshot.specs.Records.{Map}
use Rattle.snapshot.specs.Layouts.{snap_with}
use Rattle.check_rules.specs.Verdict.{refuse, finish, verdict}
use Rattle.check_records.specs.record_rules.Stands.{Stands}
use Rattle.accept.specs.Post.{Checked}

-- a record is refused, or the verdict is that of the last tests
abbrev pub Ended : List ℕ → List ℕ → Checked → Type 0
Ended W A (Err e) = verdict W ≡ refuse (refusal_number e.why) e.at
Ended W A (Ok l) =
    (ms : List Map) × (k : ℕ) × Stands W A k (length W) l ms × (verdict W ≡ finish (length W) (snap_with W A l ms))
