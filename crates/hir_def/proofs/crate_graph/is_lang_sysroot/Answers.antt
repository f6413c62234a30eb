use mathlib.Core.Path.{ap, ap₂, ◌∙◌}
use mathlib.Core.Bool.{◌&&◌}
use lib.Dec.{eqb}
use Rattle.hir_def.specs.Items.{crate_data}
use Rattle.snapshot.specs.Laid.{snap_by}
use Rattle.hir_def.proofs.crate_graph.is_lang_sysroot.Goals as goal

pub returns : goal.returns
returns c =
    λ A.
    let S = snap_by c.args.records.now A in
    ap₂ ◌&&◌ (c.eq.ensures ∙ ap (λ o. eqb o c.args.c.0) c.dependency_owner.ensures)
    (ap₂ ◌&&◌ (ap (λ n. eqb n 1) c.dependency_sysroot-inside.ensures)
    (ap (λ n. eqb n c.args.lang) (c.origin_of-origin.ensures A ∙ ap (λ d. (crate_data S d).origin) c.dependency_crate.ensures)))
