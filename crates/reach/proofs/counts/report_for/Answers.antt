use mathlib.Core.Path.{ap, ◌∙◌}
use Rattle.find_path_spec.specs.declared.Query.{Query}
use Rattle.find_path_spec.specs.Report.{reported, searched}
use Rattle.reach.specs.parts.Reach.{query_for, report_for}
use Rattle.snapshot.specs.Laid.{snap_by}
use Rattle.reach.proofs.counts.report_for.Goals as goal

pub report_in-requires : goal.report_in-requires
report_in-requires c =
    let v = c.args.v in
    rw (c.query_for.ensures ∙ (λ i. query_for v (c.scope_ns-ns.ensures i) (c.scope_definition-d.ensures i))) (
      c.requires.reads.0,
      c.requires.h_bound.0,
      c.requires.reads.1,
      c.requires.h_bound.1,
      c.requires.reads.2,
      c.requires.reads.3,
      c.requires.reads.4,
    )

pub returns : goal.returns
unfolding report_for
returns c =
    let S = snap_by c.args.records.now c.args.area.now in
    let v = c.args.v in
    record {
      value =
          c.report_in.ensures.value
          ∙ ap (λ (q : Query). reported S q (searched S q v.fuel))
          (c.query_for.ensures ∙ (λ i. query_for v (c.scope_ns-ns.ensures i) (c.scope_definition-d.ensures i)));
      area_unchanged = c.report_in.ensures.area_unchanged;
    }
