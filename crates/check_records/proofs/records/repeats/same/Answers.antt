use mathlib.Core.Path.{sym, ◌∙◌}
use Rattle.check_records.proofs.record_rules.Judged.{unlike}
use Rattle.check_records.proofs.records.repeats.same.Goals as goal

pub returns-then-payload-last : goal.returns-then-payload-last
returns-then-payload-last c = unlike c.args.words.now c.args.owner c.args.fields c.args.a c.args.b c.requires.1 c.requires.2
    (λ e. c.if-payload-last.true (c.payload.ensures ∙ e ∙ sym c.requires.3))
