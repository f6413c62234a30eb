use mathlib.Core.Path.{ap, ◌∙◌}
use Rattle.windows.specs.rules.States.{place_fault}
use Rattle.windows.specs.state.Words.{words_of}
use Rattle.windows.proofs.state.Laws.{fault_window, fault_waits, fault_none}
use Rattle.windows.proofs.state.serve.free_window.Goals as goal

pub returns-in_default : goal.returns-in_default
returns-in_default c = (fault_window _ _ c.in_default.ensures, tt)

pub returns-then-waits : goal.returns-then-waits
returns-then-waits c = (
  fault_waits _ _ c.in-Some.window.below _ c.waits.ensures c.if-waits.true
      ∙ ap (place_fault (words_of c.args.windows)) c.in-Some.ensures,
  tt,
)

pub returns : goal.returns
returns c = (
  fault_none _ _ c.in-Some.window.below _ c.waits.ensures c.if-waits.false
      ∙ ap (place_fault (words_of c.args.windows)) c.in-Some.ensures,
  c.in-Some.ensures,
)
