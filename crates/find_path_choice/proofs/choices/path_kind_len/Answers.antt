use mathlib.Core.Path.{refl}
use native.Mathlib.Omega.{arith}
use Rattle.find_path_choice.specs.Choices.{path_kind_len}
use Rattle.find_path_choice.proofs.ChoiceLaws.{kind_past, kind_text}
use Rattle.find_path_choice.proofs.choices.path_kind_len.Goals as goal

pub returns-then-kind-ge5 : goal.returns-then-kind-ge5
returns-then-kind-ge5 c = (kind_past _ c.if-kind-ge5.true, omega arith)

pub returns : goal.returns
unfolding path_kind_len
returns c = (refl, kind_text c.args.kind)
