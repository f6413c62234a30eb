use Rattle.windows.specs.rules.States.{waiting}
use Rattle.windows.specs.state.Words.{row_words}
use Rattle.windows.proofs.state.serve.with_question.Goals as goal

pub returns : goal.returns
unfolding waiting row_words
returns c = c.with_row.ensures
