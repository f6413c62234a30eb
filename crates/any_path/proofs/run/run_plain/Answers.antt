use mathlib.Core.Bool.{true}
use Rattle.snapshot.specs.Layouts.{snap_of}
use Rattle.any_path.proofs.Begins.{run_empty}
use Rattle.any_path.proofs.Whole.{all_reads, all_meant, run_done, none_begun, none_near}
use Rattle.any_path.proofs.run.run_plain.Goals as goal

pub offer_plains-near-requires : goal.offer_plains-near-requires
offer_plains-near-requires c =
    (c.requires.0, c.requires.1, run_empty _ _ c.requires.2)

pub take_up-requires : goal.take_up-requires
take_up-requires c =
    let W = c.args.records.now.words.now in
    let A = c.args.area.now in
    let L = c.args.records.now.layout in
    let from = c.args.from.0 in
    let S = snap_of W A L in
    let empty = run_empty c.args.records.now.layout.modules A c.requires.2 in
    let f = none_begun S from _ _ empty in
    let g = none_near S from _ _ empty in
    let h = c.offer_plains-near.ensures in (
      all_reads _ _ _ c.requires.0 from true f g h,
      c.requires.1,
      h.run,
      all_meant _ _ _ c.requires.0 from true f g h,
    )

pub returns : goal.returns
returns c =
    let W = c.args.records.now.words.now in
    let A = c.args.area.now in
    let L = c.args.records.now.layout in
    let from = c.args.from.0 in
    let S = snap_of W A L in
    let empty = run_empty c.args.records.now.layout.modules A c.requires.2 in
    run_done _ _ _ c.requires.0 from true (none_begun S from _ _ empty) (none_near S from _ _ empty)
    c.offer_plains-near.ensures c.take_up.ensures
