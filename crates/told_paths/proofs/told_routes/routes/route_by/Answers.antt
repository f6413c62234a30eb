use mathlib.Core.Path.{◌≡◌, ◌∙◌}
use Rattle.std.proofs.Common.{rules}
use Rattle.std.specs.Prelude.{option_map}
use Rattle.std.specs.Option.{option_map_or}
use Rattle.told_paths.specs.declared.told_routes.Meaning.{Meaning}
use native.Mathlib.Omega.{arith}
use Rattle.told_paths.specs.told_routes.Routes.{path_by}
use Rattle.told_paths.proofs.told_routes.Laws.{item_answered, place_answered}
use Rattle.told_paths.proofs.told_routes.Walks.{walked_start, walked_here, walked_next, walked_done}
use Rattle.accept.specs.Opened.{snap_in}
use Rattle.told_paths.proofs.told_routes.routes.route_by.Goals as goal

pub loop-k-init : goal.loop-k-init
loop-k-init c =
    let S = snap_in c.args.view.now.db in
    λ u e.
    walked_start S c.args.view.now.from.0 c.args.ns c.args.t.kind u c.args.t.names
    c.args.t.count e

pub loop-k-preserved : goal.loop-k-preserved
loop-k-preserved c =
    let S = snap_in c.args.view.now.db in
    let from = c.args.view.now.from.0 in
    let kind = c.args.t.kind in
    let names = c.args.t.names in
    let count = c.args.t.count in
    let mapped : c.map-here.result ≡ option_map (λ (z : Meaning). z.item) c.read_name-x.result = search rules in
    let placed : c.map_or.result ≡ option_map_or (λ (z : Meaning). z.place) c.read_name-x.result 0 = search rules in
    λ u e.
    let next = c.read_name-x.ensures (path_by kind u names c.loop-k.k)
    (walked_here S from c.args.ns kind u names count (c.loop-k.invariant u e) c.loop-k-test.true) in
    walked_next S from c.args.ns kind u names count (c.loop-k.invariant u e) c.loop-k-test.true c.requires c.looked_in-its.ensures
    (mapped ∙ item_answered _ next) (placed ∙ place_answered _ next)

pub returns : goal.returns
returns c =
    let S = snap_in c.args.view.now.db in
    walked_done S c.args.view.now.from.0 c.args.ns c.args.t.kind c.args.t.supers c.args.t.names
    c.args.t.count (c.loop-k.invariant c.args.t.supers c.start-here.ensures) (omega (arith, c.loop-k-test.false))
