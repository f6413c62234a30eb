use mathlib.Core.Path.{refl}
use native.Mathlib.Omega.{arith}
use Rattle.find_path_choice.specs.Choices.{path_len}
use Rattle.find_path_choice.specs.Given.{chosen}
use Rattle.find_path_choice.proofs.ChoiceLaws.{len_past, kind_names}
use Rattle.find_path_choice.proofs.choices.path_len.Goals as goal

pub returns-then-kind-ge5 : goal.returns-then-kind-ge5
returns-then-kind-ge5 c = (len_past (chosen c.args.c) c.if-kind-ge5.true, omega arith)

pub overflow_add-result : goal.overflow_add-result
overflow_add-result c =
    let h = kind_names c.args.c.kind in
    let g = c.requires in
    omega arith

pub returns : goal.returns
unfolding path_len
returns c =
    let h = kind_names c.args.c.kind in
    (refl, omega arith)
