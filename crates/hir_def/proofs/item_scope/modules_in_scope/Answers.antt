use mathlib.Core.Path.{refl}
use Rattle.std.proofs.Common.{rules}
use Rattle.snapshot.specs.Layouts.{snap_of}
use Rattle.snapshot.specs.Records.{scope_at}
use Rattle.hir_def.specs.ItemScope.{is_module_entry}
use Rattle.record_index.specs.Index.{key_at}
use Rattle.record_index.specs.declared.chains.Chain.TheVariants.{Modules}
use Rattle.hir_def.proofs.Searches.{next_by, only_agree}
use Rattle.hir_def.proofs.item_scope.Along.{module_within}
use Rattle.hir_def.proofs.item_scope.modules_in_scope.Goals as goal

pub returns : goal.returns
returns c =
    λ A.
    let W = c.args.db.now.records.words.now in
    let l = c.args.db.now.records.layout in
    let test = is_module_entry (snap_of W A l) c.args.m.0 in
    next_by test scope_at W _ _ refl (only_agree (key_at W l Modules) c.args.m.0 test (scope_at W) _
    (λ h. module_within W A l _ (scope_at W h)) (λ h t p. search rules)) _ _ c.next_in_chain.ensures
