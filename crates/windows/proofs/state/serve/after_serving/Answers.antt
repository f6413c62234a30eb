use mathlib.Core.Path.{◌∙◌, ap}
use Rattle.windows.specs.declared.state.rows.Row.{Row}
use Rattle.windows.specs.rules.States.{with_row}
use Rattle.windows.specs.state.Words.{row_words, words_of}
use Rattle.windows.proofs.state.StateWords.{words_served}
use Rattle.windows.proofs.state.serve.after_serving.Goals as goal

pub returns : goal.returns
returns c =
    rw c.next.ensures
    (words_served _ c.with_row-served.result _
    (c.with_row-served.ensures ∙ ap (λ (r : Row). with_row (words_of c.args.windows) c.args.window.number (row_words r))
    c.empty_row-row.ensures))
