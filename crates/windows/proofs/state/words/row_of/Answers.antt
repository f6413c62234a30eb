use mathlib.Core.Path.{refl}
use Rattle.windows.specs.state.Words.{row_words}
use Rattle.windows.proofs.state.StateWords.{row_read}
use Rattle.windows.proofs.state.words.row_of.Goals as goal

pub returns : goal.returns
unfolding row_words
returns c = row_read c.args.words c.args.window.number c.well_formed.0.1.0.1 c.args.window.below _ refl
