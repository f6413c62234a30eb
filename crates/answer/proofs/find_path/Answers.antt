use mathlib.Core.Path.{◌≡◌, ap, ◌∙◌}
use Rattle.std.proofs.Common.{rules}
use Rattle.snapshot.specs.Limits.{area_limit}
use Rattle.find_path_spec.specs.Report.{report_of}
use Rattle.answer.specs.checked.Questioned.{told}
use Rattle.answer.proofs.Areas.{answers_by}
use Rattle.answer.proofs.find_path.Goals as goal

pub returns : goal.returns
returns c =
    let s = c.args in
    let f = c.in_front-r.ensures in
    let e : c.unwrap_or_else.result ≡ told c.in_front-r.result = search rules in
    answers_by s.words.now s.area.now s.question _ c.in_front-r.new.area f.cleared (λ h. e ∙ ap told (f.small h))
    (λ h. let d = f.done h in let k : told c.in_front-r.result ≡ report_of s.words.now area_limit s.question = search rules in e ∙ k)
