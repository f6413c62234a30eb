-- The version of what goes in and out.
use Rattle.std.specs.Prelude.{ℕ, ◌+◌, ◌*◌}
use Rattle.reports.specs.Written.{report_size}

-- of snapshots, questions and states: one more whenever a program that was built for the one before could be misled
abbrev pub format_version : ℕ
format_version = 2

abbrev pub version : ℕ
version = 65536 * format_version + report_size
