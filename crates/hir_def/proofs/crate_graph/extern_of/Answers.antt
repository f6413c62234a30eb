use mathlib.Core.Path.{refl, sym, ◌∙◌}
use native.Mathlib.Omega.{arith}
use Rattle.hir_def.proofs.Lookups.{back_hit, back_miss, extern_whole}
use Rattle.hir_def.proofs.crate_graph.Others.{extern_high, extern_low}
use Rattle.hir_def.proofs.crate_graph.extern_of.Goals as goal

pub loop-k-init : goal.loop-k-init
loop-k-init c =
    extern_high c.args.db.now.records.words.now c.args.db.now.area.now c.args.db.now.records.layout c.args.db.now.reads c.args.c.0 c.args.m.0
    c.part_of-part.result c.part_of-part.ensures c.extern_base-base.ensures c.min-k.ensures

pub returns-then-is_extern : goal.returns-then-is_extern
returns-then-is_extern c =
    λ A.
    let w = c.loop-k in
    back_hit _ _ _ _ w.invariant.1 (omega (arith, c.loop-k-test.true)) refl c.is_extern.ensures c.if-is_extern.true
    ∙ extern_whole c.args.db.now.records.words.now A c.args.db.now.records.layout c.args.c.0 c.args.m.0 c.extern_base-base.ensures

pub loop-k-preserved : goal.loop-k-preserved
loop-k-preserved c =
    let w = c.loop-k in (
      omega (arith, w.invariant.0),
      w.invariant.1 ∙ back_miss _ _ _ _ refl (omega (arith, c.loop-k-test.true)) refl c.is_extern.ensures c.if-is_extern.false,
    )

pub returns : goal.returns
returns c =
    λ A.
    let w = c.loop-k in
    extern_low c.args.db.now.records.words.now c.args.db.now.area.now c.args.db.now.records.layout c.args.db.now.reads c.args.c.0 c.args.m.0
    c.part_of-part.result c.part_of-part.ensures c.extern_base-base.ensures (omega (arith, c.loop-k-test.false)) w.invariant.0
    ∙ sym w.invariant.1
    ∙ extern_whole c.args.db.now.records.words.now A c.args.db.now.records.layout c.args.c.0 c.args.m.0 c.extern_base-base.ensures
