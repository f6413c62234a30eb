use mathlib.Core.Path.{refl, sym, ◌∙◌}
use mathlib.Core.List.{[]}
use Rattle.snapshot.specs.Laid.{snap_by}
use Rattle.find_path_spec.specs.Search.{search_local, best_local}
use Rattle.find_path_local.proofs.path_offers.Naming.{unfound}
use Rattle.find_path_local.proofs.Searches.{asked_small, marked_reads, walk_ready, walk_marked, walk_walked, search_start, search_done}
use Rattle.find_path_local.proofs.calculate_best_path_local.Goals as goal

pub returns-then-not-is_named : goal.returns-then-not-is_named
unfolding best_local
returns-then-not-is_named c =
    let S = snap_by c.args.records.now c.args.area.now in
    record {
      same = unfound S c.args.x c.args.item (search_local S c.args.x) c.args.left [] (c.is_named.ensures c.if-not-is_named.true);
      tables = refl;
    }

pub invariant_of-sought : goal.invariant_of-sought
invariant_of-sought c = record {
  small = asked_small c.args.records.now.words.now c.args.area.now c.args.records.now.layout c.requires.0.reads c.args.item c.requires.1;
}

pub mark_rules-requires : goal.mark_rules-requires
mark_rules-requires c = (record { reads = c.requires.0.reads; area = c.requires.0.area }, c.requires.0.from)

pub take_walk-requires : goal.take_walk-requires
take_walk-requires c =
    let r = c.args.records.now in
    (marked_reads r.words.now c.args.area.now r.layout c.args.x c.requires.0 _ c.mark_rules.ensures, c.requires.0.from)

pub set_distances-requires : goal.set_distances-requires
set_distances-requires c =
    let r = c.args.records.now in
    let W = r.words.now in
    let A = c.args.area.now in
    let x = c.args.x in
    let p = c.requires.0 in
    let m = c.mark_rules.ensures in
    let w = c.take_walk.ensures in (
      walk_ready W A r.layout x p _ m _ w (c.take_walk.array_long ∙ sym c.told-area),
      p.from,
      walk_marked W A r.layout x p _ m _ w,
      walk_walked W A r.layout x p _ m _ w,
    )

pub local_at-requires : goal.local_at-requires
local_at-requires c =
    let r = c.args.records.now in
    let y = search_start r.words.now c.args.area.now r.layout c.args.x c.requires.0 _ c.mark_rules.ensures _ c.take_walk.ensures _
    c.set_distances.ensures _ c.clear_rows.ensures c.args.left c.requires.3 (c.clear_rows.array_long ∙ sym c.told-area) in
    (c.requires.2, y)

pub returns : goal.returns
returns c =
    let r = c.args.records.now in
    search_done r.words.now c.args.area.now r.layout c.args.x c.requires.0 _ c.mark_rules.ensures _ c.take_walk.ensures _ c.set_distances.ensures _
    c.clear_rows.ensures c.args.left c.args.item _ _ c.local_at.ensures
