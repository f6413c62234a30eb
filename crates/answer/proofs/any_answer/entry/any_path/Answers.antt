use mathlib.Core.Path.{◌≡◌, ap, ◌∙◌}
use Rattle.std.proofs.Common.{rules}
use Rattle.snapshot.specs.Limits.{area_limit}
use Rattle.answer.specs.any_answer.Any.{told, any_query, any_report}
use Rattle.answer.proofs.any_answer.Laws.{any_answers}
use Rattle.answer.proofs.any_answer.entry.any_path.Goals as goal

pub returns : goal.returns
returns c =
    let s = c.args in
    let f = c.in_front.ensures in
    let e : c.unwrap_or_else.result ≡ told c.in_front.result = search rules in
    any_answers s.words.now s.area.now s.ns s.definition s.from c.in_front.new.area f.cleared (λ h. e ∙ ap told (f.small h))
    (λ h.
    let d = f.done h in
    let k : told c.in_front.result ≡ any_report s.words.now area_limit (any_query s.ns s.definition s.from) = search rules in
    e ∙ k)
