use mathlib.Core.Path.{refl}
use Rattle.windows.specs.state.Words.{row_words}
use Rattle.windows.proofs.state.words.row_words.Goals as goal

pub returns : goal.returns
unfolding row_words
returns c = refl
