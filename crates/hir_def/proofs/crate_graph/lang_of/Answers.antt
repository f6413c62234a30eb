use mathlib.Core.Path.{refl, sym, ap, ◌∙◌}
use mathlib.Core.Bool.{◌&&◌}
use Rattle.std.proofs.Common.{rules}
use Rattle.snapshot.specs.Records.{Dependency, dependency_at}
use Rattle.snapshot.specs.Laid.{snap_by}
use Rattle.hir_def.specs.Entries.{entry_of}
use Rattle.hir_def.specs.Nameres.{is_dependency, is_lang_sysroot}
use Rattle.hir_def.proofs.Lookups.{lang_whole}
use Rattle.hir_def.proofs.Searches.{over, found_by, none_by, only_agree}
use Rattle.hir_def.proofs.Parts.{dependency_owner, dependencies_inside}
use Rattle.hir_def.proofs.crate_graph.Others.{others_lang}
use Rattle.hir_def.proofs.crate_graph.lang_of.Goals as goal

pub returns : goal.returns
returns c =
    let W = c.args.db.now.records.words.now in
    let l = c.args.db.now.records.layout in
    let v = over _ c.dependencies.ensures 0 _ (c.next_within.ensures (dependency_owner W) c.args.c.0
    (dependencies_inside W c.args.db.now.area.now l c.args.db.now.reads c.args.c.0 c.part_of-part.result
    c.dependencies.ensures c.part_of-part.ensures)) in
    λ A.
    let q = λ (d : Dependency). is_dependency c.args.c.0 d && is_lang_sysroot (snap_by c.args.db.now.records A) c.args.lang d in
    (found_by q dependency_at W _ _ refl
    (only_agree (dependency_owner W) c.args.c.0 q (dependency_at W) _
    (λ h. others_lang c.args.c.0 (is_lang_sysroot (snap_by c.args.db.now.records A) c.args.lang) (dependency_at W h))
    (λ h t p. search rules)) v c.in_ok-next.was).0
    ∙ sym (lang_whole W A l c.args.c.0 c.args.lang)

pub returns-in_err-next : goal.returns-in_err-next
returns-in_err-next c =
    let W = c.args.db.now.records.words.now in
    let l = c.args.db.now.records.layout in
    let v = over _ c.dependencies.ensures 0 _ (c.next_within.ensures (dependency_owner W) c.args.c.0
    (dependencies_inside W c.args.db.now.area.now l c.args.db.now.reads c.args.c.0 c.part_of-part.result
    c.dependencies.ensures c.part_of-part.ensures)) in
    λ A.
    let q = λ (d : Dependency). is_dependency c.args.c.0 d && is_lang_sysroot (snap_by c.args.db.now.records A) c.args.lang d in
    ap (entry_of dependency_at W) c.from_residual.ensures
    ∙ (none_by q dependency_at W _ _ refl
    (only_agree (dependency_owner W) c.args.c.0 q (dependency_at W) _
    (λ h. others_lang c.args.c.0 (is_lang_sysroot (snap_by c.args.db.now.records A) c.args.lang) (dependency_at W h))
    (λ h t p. search rules)) v c.in_err-next.was).0
    ∙ sym (lang_whole W A l c.args.c.0 c.args.lang)
