use Rattle.nameable.specs.Paths.{named, within}
use Rattle.told_paths.proofs.told_routes.Laws.{answers_as, after_nothing, after_thing}
use Rattle.accept.specs.Opened.{snap_in}
use Rattle.told_paths.proofs.told_routes.names.read_after.Goals as goal

pub returns-in_err-x : goal.returns-in_err-x
returns-in_err-x c =
    let S = snap_in c.args.view.now.db in
    λ o h.
    answers_as (after_nothing (λ x. named c.args.name.0 (within S c.args.view.now.from.0 c.args.ns x)) c.in_err-x.was o h)
    c.from_residual.ensures

pub returns : goal.returns
returns c =
    let S = snap_in c.args.view.now.db in
    λ o h.
    answers_as (after_thing (λ x. named c.args.name.0 (within S c.args.view.now.from.0 c.args.ns x)) c.in_ok-x.was o h)
    c.in_item.ensures
