use mathlib.Core.Path.{sym, ◌∙◌}
use mathlib.Core.Bool.{false≢true}
use Rattle.find_path_local.proofs.tight_rows.is_tight.Goals as goal

pub returns-then-word-left : goal.returns-then-word-left
returns-then-word-left c = λ e. absurd (false≢true e)

pub returns : goal.returns
returns c =
    λ t. record { number = sym c.if-word-left.false ∙ c.word.ensures; farther = c.is_clear.ensures t }
