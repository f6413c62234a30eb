use mathlib.Core.Path.{refl, ap, ◌∙◌}
use native.Mathlib.Omega.{arith}
use Rattle.answer.specs.Answers.{zeros}
use Rattle.answer.proofs.Areas.{area_small, area_large}
use Rattle.answer.proofs.area.in_front.Goals as goal

pub returns-in_default : goal.returns-in_default
returns-in_default g c =
    let h = c.in_default.ensures.cases in
    record { cleared = area_small c.args.area.now h; small = λ k. refl; done = λ k. absurd (omega (arith, h, k)) }

pub returns : goal.returns
returns g c =
    let f = c.in-Some.ensures.cases in
    record {
      cleared = area_large c.args.area.now c.clear.new.area f.enough (c.clear.ensures ∙ ap zeros c.work-r.array_long);
      small = λ k. absurd (omega (arith, k, f.enough));
      done = λ k. (_, record { shown = _; shows = f.same; left = _; met = c.work-r.ensures; leaves = refl });
    }
