-- How many questions go in at once.
use Rattle.std.specs.Prelude.{ℕ, ◌*◌, ◌/◌, ◌%◌, Bool, ◌&&◌, eqb, leb}
use Rattle.reports.specs.Written.{report_size}
use Rattle.snapshot.specs.Sizes.{question_size}

-- questions of a call, at most
abbrev pub question_limit : ℕ
question_limit = 64

-- so many words are at most 64 whole questions, and there are words enough for their reports
unfoldable pub batch_fits : ℕ → ℕ → Bool
batch_fits questions reports =
    leb (questions / question_size) question_limit
    && (eqb (questions % question_size) 0 && leb (report_size * (questions / question_size)) reports)
