use Prim.Native.Nat.{ℕ}
use mathlib.Core.Path.{refl}
use mathlib.Core.List.{List}
use mathlib.Core.Bool.{◌&&◌}
use Rattle.std.proofs.Common.{rules}
use Rattle.snapshot.specs.Layouts.{snap_of}
use Rattle.snapshot.specs.Records.{Scope}
use Rattle.hir_def.specs.ItemScope.{counts, is_for, is_fresh, names_of, names_reads, preferred, preferred_reads}
use Rattle.hir_def.proofs.Along.{entry_keyed}
use Rattle.hir_def.proofs.item_scope.Two.{less_fresh}
use Rattle.hir_def.proofs.item_scope.fresh_of.Goals as goal

pub returns : goal.returns
unfolding names_of names_reads preferred preferred_reads
returns c =
    let W = c.args.db.now.records.words.now in
    let l = c.args.db.now.records.layout in
    let m = c.args.m.0 in
    let p = counts c.args.declared in
    let x =
    λ (A : List ℕ).
    let its = is_for (snap_of W A l) m c.args.item in
    c.preferred.ensures (λ (e : Scope). its e && p e) (λ (e : Scope). its e && is_fresh p e) (λ h t p. search rules) (λ h t p. search rules)
    (less_fresh its p) (entry_keyed W A l m c.args.item p refl)
    in
    (λ A. (x A).0, λ A n. (x A).1)
