use mathlib.Core.Path.{ap, ◌∙◌}
use Rattle.answer.specs.Answers.{zeros}
use Rattle.imports.proofs.Laws.{lists_small, lists_large}
use Rattle.imports.proofs.import_list.Goals as goal

pub returns-in_default : goal.returns-in_default
returns-in_default c = lists_small c.args.words.now c.args.area.now c.args.target.now c.args.c.0 c.in_default.ensures.cases

pub returns : goal.returns
returns c =
    lists_large c.args.words.now c.args.area.now c.args.target.now _ _ c.args.c.0 _ c.in-Some.ensures.cases.enough
    (c.clear.ensures ∙ ap zeros c.list_checked-r.array_long) c.list_checked-r.ensures
