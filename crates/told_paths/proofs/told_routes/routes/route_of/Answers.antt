use mathlib.Core.Path.{ap, ◌∙◌}
use native.Mathlib.Omega.{arith}
use Rattle.nameable.specs.Paths.{Path, route_of}
use Rattle.told_paths.specs.Tells.{padded}
use Rattle.told_paths.specs.declared.ToldPath.{ToldPath}
use Rattle.told_paths.proofs.Laws.{tell_count}
use Rattle.told_paths.proofs.told_routes.Walks.{told_by_lem}
use Rattle.accept.specs.Opened.{snap_in}
use Rattle.told_paths.proofs.told_routes.routes.route_of.Goals as goal

pub returns-then-t-gt-LIMIT : goal.returns-then-t-gt-LIMIT
returns-then-t-gt-LIMIT c =
    λ p e h.
    let n = ap (λ (u : ToldPath). u.count) e ∙ tell_count p in
    absurd (omega (arith, c.if-t-gt-LIMIT.true, n, h))

pub returns : goal.returns
returns c =
    let S = snap_in c.args.view.now.db in
    λ p e h.
    c.route_by.ensures
    ∙ ap (λ (q : Path). padded (route_of S c.args.view.now.from.0 c.args.ns q)) (told_by_lem p e h)
