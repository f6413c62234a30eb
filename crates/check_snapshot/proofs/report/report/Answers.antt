use Rattle.std.proofs.Common.{sym, ap, ◌∙◌}
use Rattle.accept.specs.Post.{outcome}
use Rattle.check_snapshot.specs.Verdict.{words_of}
use Rattle.check_snapshot.specs.Text.{text_of}
use Rattle.check_snapshot.proofs.Laws.{front, text_accepted}
use Rattle.check_snapshot.proofs.report.report.Goals as goal

pub returns-in-Ok-clause-out_after : goal.returns-in-Ok-clause-out_after
returns-in-Ok-clause-out_after c =
    let p = c.put_counts.ensures in
    let B = c.args.bytes.now in
    let W = words_of B in
    let v = ap (outcome W _) (sym c.in-Ok.is) ∙ c.verdict.ensures in
    (front p ∙ text_accepted B W c.verdict.new.area c.in-Ok.l ∙ ap (text_of B) v, p.rest)
