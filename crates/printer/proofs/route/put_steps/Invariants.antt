use Prim.Native.Nat.{◌+◌, ◌*◌, ◌≤◌}
use mathlib.Core.Path.{◌≡◌}
use lib.ListN.{length, take}
use Rattle.printing.specs.Output.{Put}
use Rattle.find_path_spec.specs.Line.{steps_text}
use Rattle.printer.proofs.route.put_steps.Given as goal

abbrev pub invariant-loop-step : goal.invariant-loop-step
invariant-loop-step l =
    (l.step-index ≤ length l.route) × (length l.out ≡ length l.initial.out)
    × Put l.initial.out l.at (steps_text (take l.step-index l.route)) l.out l.to × (l.to ≤ l.at + 29 * l.step-index)
