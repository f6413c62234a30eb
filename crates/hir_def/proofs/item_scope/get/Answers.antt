use mathlib.Core.Path.{refl}
use Rattle.std.proofs.Common.{rules}
use Rattle.snapshot.specs.Records.{scope_at}
use Rattle.record_index.specs.Index.{key_at}
use Rattle.record_index.specs.declared.chains.Chain.TheVariants.{Modules}
use Rattle.hir_def.specs.ItemScope.{is_named, get as entry_named}
use Rattle.hir_def.proofs.Searches.{first_by, only_agree}
use Rattle.hir_def.proofs.item_scope.Along.{named_within}
use Rattle.hir_def.proofs.item_scope.get.Goals as goal

pub returns : goal.returns
unfolding entry_named
returns c =
    let W = c.args.db.now.records.words.now in
    let test = is_named c.args.m.0 c.args.ns c.args.name.0 in
    λ A.
    first_by test scope_at W _ _ refl
    (only_agree (key_at W c.args.db.now.records.layout Modules) c.args.m.0 test (scope_at W) _ (λ h. named_within _ _ _ (scope_at W h))
    (λ h t p. search rules)) _ c.first_in_chain.ensures
