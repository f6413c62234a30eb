use mathlib.Core.Path.{refl}
use native.Mathlib.Omega.{arith}
use Rattle.windows.specs.state.Words.{words_of}
use Rattle.windows.proofs.Laws.{turned_not, turned_so}
use Rattle.windows.proofs.values.turned.Goals as goal

pub returns-in_default : goal.returns-in_default
returns-in_default c =
    let s = c.args in
    turned_not (words_of s.windows) s.words.now s.area.now _ c.in_default.ensures refl

pub returns : goal.returns
returns c =
    let s = c.args in
    turned_so (words_of s.windows) s.words.now s.area.now _ c.in-Some.ensures (λ e. omega (arith, e, c.in-Some.window.below)) _
    c.asked_by.ensures _ _ c.find_path-report.ensures _ c.after_serving-windows.ensures
