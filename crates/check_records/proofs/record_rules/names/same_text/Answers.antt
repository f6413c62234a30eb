use mathlib.Core.Path.{sym, ap, ◌∙◌}
use borrow.Author.Tests.{ne_eqb}
use Rattle.snapshot.specs.Words.{words_of}
use Rattle.check_records.proofs.record_rules.Laws.{and_no, text_same, text_unlike}
use Rattle.check_records.proofs.record_rules.names.same_text.Goals as goal

pub returns-then-payload-last : goal.returns-then-payload-last
returns-then-payload-last c =
    text_unlike c.args.left.now c.args.right.now c.args.a c.args.b c.args.n c.requires.1
    (λ e. c.if-payload-last.true (c.payload.ensures ∙ e ∙ sym c.requires.2))

pub returns-then-x-y : goal.returns-then-x-y
returns-then-x-y c = and_no _ (ne_eqb _ _ (λ e. c.if-x-y.true (c.payload-x.ensures ∙ e ∙ sym c.payload-y.ensures)))

pub returns : goal.returns
returns c =
    text_same c.args.left.now c.args.right.now c.args.a c.args.b c.payload-x.ensures
    c.payload-y.ensures c.if-x-y.false (c.requires.1 ∙ ap words_of (sym c.payload-x.ensures)) c.same_words.ensures
