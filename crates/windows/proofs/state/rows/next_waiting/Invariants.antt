use Prim.Native.Nat.{◌-◌, ◌≤◌, ◌<◌}
use mathlib.Core.Path.{◌≡◌}
use Rattle.windows.specs.rules.States.{first_from, served}
use Rattle.windows.specs.state.Words.{words_of}
use Rattle.windows.proofs.state.rows.next_waiting.Given as goal

abbrev pub invariant-loop-turn : goal.invariant-loop-turn
invariant-loop-turn l = (l.window.0 < 8) × (l._turn ≤ 8) × (served (words_of l.windows) ≡ first_from (words_of l.windows) l.window.0 (8 - l._turn))
