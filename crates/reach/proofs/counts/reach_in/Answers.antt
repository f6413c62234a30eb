use Prim.Native.Nat.{◌+◌}
use mathlib.Core.Path.{sym, ap, subst, ◌∙◌}
use native.Mathlib.Omega.{arith}
use Rattle.std.specs.Prelude.{Ok}
use Rattle.find_path_spec.proofs.laws.Tables.{same_reads}
use Rattle.reach.specs.parts.Reach.{told}
use Rattle.reach.proofs.Laws.{Reaching, reaching_start, reaching_met, reaching_new, reaching_done, entry_fits, report_fits}
use Rattle.reach.proofs.Laws.{report_entry}
use Rattle.reach.proofs.counts.reach_in.Goals as goal
use Rattle.reach.proofs.counts.reach_in.Goals.{then-not-is_met, else-not-is_met}

pub loop-k-init : goal.loop-k-init
loop-k-init c =
    reaching_start c.args.records.now.words.now c.args.area.now c.args.records.now.layout c.args.v

pub report_for-r-requires : goal.report_for-r-requires
report_for-r-requires c = let W = c.args.records.now.words.now in
    let r = same_reads W c.args.area.now c.loop-k.area c.args.records.now.layout c.loop-k.invariant.tables c.requires.0 in record {
      reads = (r, c.requires.1, c.requires.2, c.requires.3, c.requires.4);
      h_bound = entry_fits W c.loop-k.area c.args.records.now.layout r
          c.loop-k.k _ c.loop-k-test.true c.scope_base-base.ensures;
    }

pub tally-reach-requires : goal.tally-reach-requires
tally-reach-requires c =
    let W = c.args.records.now.words.now in
    let r = same_reads W c.args.area.now c.loop-k.area c.args.records.now.layout c.loop-k.invariant.tables c.requires.0 in
    report_fits W c.loop-k.area c.args.records.now.layout r c.loop-k.k _ c.loop-k-test.true c.scope_base-base.ensures c.args.v
    (record { some = c.requires.3; most = c.requires.4 }) c.loop-k.reach.counts _ c.report_for-r.ensures.value c.loop-k.invariant.within

pub loop-k-preserved : goal.loop-k-preserved
loop-k-preserved c =
    let W = c.args.records.now.words.now in
    let A₀ = c.args.area.now in
    let r = same_reads W A₀ c.loop-k.area c.args.records.now.layout c.loop-k.invariant.tables c.requires.0 in
    elim c.if-not-is_met.branch [
      | then-not-is_met w ↦
          subst (λ x. Reaching W A₀ c.args.records.now.layout c.args.v x c.if-not-is_met.reach.counts (c.loop-k.k + 1)) (sym w.area-is)
          (reaching_new W A₀ c.args.records.now.layout c.args.v c.loop-k.area c.loop-k.reach.counts c.loop-k.k c.loop-k.invariant c.loop-k-test.true
          (sym w.if-not-is_met.true ∙ c.is_met.ensures A₀) (record { some = c.requires.3; most = c.requires.4 }) c.requires.0 _ _
          w.report_for-r.ensures.area_unchanged (omega (arith, w.report_for-r.array_long, c.told-area, c.loop-k.invariant.size))
          (report_entry W c.loop-k.area c.args.records.now.layout r c.loop-k.k _ c.loop-k-test.true c.scope_base-base.ensures c.args.v _
          w.report_for-r.ensures.value) _ (ap (λ x. told (Ok x)) w.reach-is ∙ w.tally-reach.ensures))
      | else-not-is_met w ↦
          subst (λ x. Reaching W A₀ c.args.records.now.layout c.args.v x c.if-not-is_met.reach.counts (c.loop-k.k + 1)) (sym w.area-is)
          (subst (λ x. Reaching W A₀ c.args.records.now.layout c.args.v c.loop-k.area x.counts (c.loop-k.k + 1)) (sym w.reach-is)
          (reaching_met W A₀ c.args.records.now.layout c.args.v c.loop-k.area c.loop-k.reach.counts c.loop-k.k c.loop-k.invariant c.loop-k-test.true
          (sym w.if-not-is_met.false ∙ c.is_met.ensures A₀)))
    ]

pub returns : goal.returns
returns c = record {
  value = reaching_done c.args.records.now.words.now c.args.area.now c.args.records.now.layout c.args.v c.loop-k.area c.loop-k.reach.counts
      c.loop-k.k c.loop-k.invariant c.loop-k-test.false;
  area_unchanged = c.loop-k.invariant.tables;
}
