use Prim.Native.Nat.{ℕ}
use mathlib.Core.Path.{refl}
use mathlib.Core.List.{List}
use mathlib.Core.Bool.{◌&&◌}
use native.Mathlib.Omega.{arith}
use Rattle.std.proofs.Common.{rules}
use Rattle.snapshot.specs.Layouts.{snap_of}
use Rattle.snapshot.specs.Records.{Scope, scope_at}
use Rattle.record_index.specs.Index.{key_at}
use Rattle.record_index.specs.declared.chains.Chain.TheVariants.{Items}
use Rattle.hir_def.specs.ItemScope.{counts, is_for, names_of, names_reads}
use Rattle.hir_def.proofs.Searches.{met_by, found_by, none_by, only_agree}
use Rattle.hir_def.proofs.Along.{entry_keyed}
use Rattle.hir_def.proofs.item_scope.names_of.Goals as goal

pub overflow_add-result : goal.overflow_add-result
overflow_add-result c =
    let m = met_by _ _ _ _ _ c.next_in_chain.ensures c.in-Some.is in
    record { fits = omega (arith, m.below, c.args.db.now.records.fits) }

pub returns-in-Some : goal.returns-in-Some
unfolding names_of names_reads
returns-in-Some c =
    let W = c.args.db.now.records.words.now in
    let l = c.args.db.now.records.layout in
    let v = c.next_in_chain.ensures in
    let m = met_by _ _ _ _ _ v c.in-Some.is in
    let test = λ (A : List ℕ) (e : Scope). is_for (snap_of W A l) c.args.m.0 c.args.item e && counts c.args.declared e in
    let x =
    λ (A : List ℕ).
    found_by (test A) scope_at W _ _ refl
    (only_agree (key_at W l Items) c.item_key.result (test A) (scope_at W) _
    (λ h. entry_keyed W A l c.args.m.0 c.args.item (counts c.args.declared) c.item_key.ensures h) (λ h t p. search rules))
    v c.in-Some.is
    in
    (λ A. (x A).0, λ A. (x A).1, omega (arith, m.head))

pub returns-in-None : goal.returns-in-None
unfolding names_of names_reads
returns-in-None c =
    let W = c.args.db.now.records.words.now in
    let l = c.args.db.now.records.layout in
    let v = c.next_in_chain.ensures in
    let test = λ (A : List ℕ) (e : Scope). is_for (snap_of W A l) c.args.m.0 c.args.item e && counts c.args.declared e in
    let x =
    λ (A : List ℕ).
    none_by (test A) scope_at W _ _ refl
    (only_agree (key_at W l Items) c.item_key.result (test A) (scope_at W) _
    (λ h. entry_keyed W A l c.args.m.0 c.args.item (counts c.args.declared) c.item_key.ensures h) (λ h t p. search rules))
    v c.in-None.is
    in
    (λ A. (x A).0, λ A. (x A).1, search rules)
