use mathlib.Core.Path.{sym, ap, ◌∙◌}
use Rattle.snapshot.specs.Records.{Snapshot}
use Rattle.snapshot.specs.Layouts.{snap_of}
use Rattle.hir_def.specs.Items.{parent_of}
use Rattle.hir_def.proofs.Climbs.{some_number, none_number}
use Rattle.find_path_local.specs.distances.Distances.{is_keyword}
use Rattle.find_path_local.proofs.distances.Lowering.{lowers_snap, lowers_ready, lowers_then, distances_less}
use Rattle.find_path_local.proofs.distances.Marking.{keywords_one, keywords_two, parent_known}
use Rattle.find_path_local.proofs.distances.mark_keywords.Goals as goal

pub invariant_of-db : goal.invariant_of-db
invariant_of-db c = record {
  reads = (lowers_ready c.args.records.now.words.now c.args.records.now.layout c.mark_keyword.ensures.0 c.requires.0
      (c.mark_keyword.array_long ∙ sym c.told-area)).reads;
}

pub returns-in_default : goal.returns-in_default
returns-in_default c =
    let W = c.args.records.now.words.now in
    let A = c.args.area.now in
    let l = c.args.records.now.layout in
    let f = c.mark_keyword.ensures in
    let q = c.parent.ensures ∙ ap (λ (z : Snapshot). parent_of z c.args.x.from.0)
    (lowers_snap W l f.0 c.requires.0.reads) in
    (f.0, keywords_one (snap_of W A l) c.args.x _ f.1 (none_number _ q c.in_default.is))

pub mark_keyword-requires-2 : goal.mark_keyword-requires-2
mark_keyword-requires-2 c =
    let W = c.args.records.now.words.now in
    let A = c.args.area.now in
    let l = c.args.records.now.layout in
    let f = c.mark_keyword.ensures in
    let q = c.parent.ensures ∙ ap (λ (z : Snapshot). parent_of z c.args.x.from.0)
    (lowers_snap W l f.0 c.requires.0.reads) in (
      lowers_ready W l f.0 c.requires.0 (c.mark_keyword.array_long ∙ sym c.told-area),
      c.requires.1,
      parent_known W A l c.requires.0.reads
          c.args.x.from.0 c.requires.1 (some_number _ q c.in-Some.is),
    )

pub returns : goal.returns
returns c =
    let W = c.args.records.now.words.now in
    let A = c.args.area.now in
    let l = c.args.records.now.layout in
    let f = c.mark_keyword.ensures in
    let g = c.mark_keyword-2.ensures in
    let sn = lowers_snap W l f.0 c.requires.0.reads in
    let q = c.parent.ensures ∙ ap (λ (z : Snapshot). parent_of z c.args.x.from.0) sn in (
      lowers_then f.0 g.0,
      keywords_two (snap_of W A l) c.args.x _ _ (some_number _ q c.in-Some.is) (distances_less g.0)
          f.1 (λ e. g.1 (ap (λ (z : Snapshot). is_keyword z c.args.x c.in-Some.p.0) sn ∙ e)),
    )
