use mathlib.Core.Path.{ap, sym, ◌∙◌}
use Rattle.snapshot.specs.reading.Words.{words_of}
use Rattle.snapshot.specs.Sizes.{argument_table}
use lib.ListN.{get_or}
use Rattle.snapshot.proofs.Laws.{arguments_name, arguments_fixed}
use Rattle.snapshot.proofs.kind.arguments.Goals as goal

pub returns-then-k : goal.returns-then-k
returns-then-k c =
    c.text_words.ensures ∙ ap words_of c.payload.ensures ∙ arguments_name _ _ (sym c.kind-k.ensures ∙ c.if-k.true)

pub returns : goal.returns
returns c =
    c.fixed.ensures ∙ ap (λ x. get_or argument_table x 0) c.kind-k.ensures ∙ arguments_fixed _ _ (λ e. c.if-k.false (c.kind-k.ensures ∙ e))
