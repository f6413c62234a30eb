use mathlib.Core.Path.{refl}
use Rattle.find_path_choice.specs.Choices.{unstably}
use Rattle.find_path_choice.proofs.choices.unstably.Goals as goal

pub returns : goal.returns
unfolding unstably
returns c = refl
