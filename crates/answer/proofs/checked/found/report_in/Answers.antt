use mathlib.Core.Path.{◌∙◌, ap}
use Rattle.snapshot.specs.Records.{Snapshot}
use Rattle.snapshot.specs.Layouts.{snap_of}
use Rattle.find_path_choice.specs.Given.{given}
use Rattle.find_path_spec.specs.Charged.{given_found}
use Rattle.find_path_spec.specs.Report.{misleads}
use Rattle.find_path_spec.proofs.laws.Tables.{same_snap, same_reads}
use Rattle.reports.proofs.Laws.{reported_out}
use Rattle.answer.proofs.checked.Reading.{found_few}
use Rattle.answer.proofs.checked.found.report_in.Goals as goal

pub invariant_of-db : goal.invariant_of-db
invariant_of-db c = let f = c.find_path-f in
    let W = c.args.records.now.words.now in
    let A = c.args.area.now in record { reads = same_reads W A _ c.args.records.now.layout f.ensures.tables c.requires.0 }

pub misleads-misleading-requires : goal.misleads-misleading-requires
misleads-misleading-requires c =
    let f = c.find_path-f in
    let W = c.args.records.now.words.now in
    let A = c.args.area.now in (
      c.requires.2,
      found_few (snap_of W A c.args.records.now.layout) c.args.q c.args.fuel c.requires.5 c.requires.6 (given_found f.result) f.ensures.same,
    )

pub returns : goal.returns
returns c = let W = c.args.records.now.words.now in
    let A = c.args.area.now in
    let S = snap_of W A c.args.records.now.layout in
    let q = c.args.q in record {
      value = c.reported.ensures S q
          (c.misleads-misleading.ensures ∙ ap (λ (x : Snapshot). misleads x q (given c.find_path-f.result.choice))
          (same_snap W A c.find_path-f.new.area c.args.records.now.layout c.find_path-f.ensures.tables c.requires.0))
          ∙ reported_out S q c.find_path-f.result _ c.find_path-f.ensures.same;
      area_unchanged = c.find_path-f.ensures.tables;
    }
