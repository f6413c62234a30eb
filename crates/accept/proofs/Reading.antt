-- The records that accepted words hold, each at its place, are in range.
use mathlib.Core.Path.{◌≡◌, subst}
use Prim.Native.Nat.{ℕ, ◌+◌, ◌*◌, ◌<◌}
use mathlib.Core.List.{List}
use Rattle.snapshot.specs.Sizes.{dependency_size, child_size}
use Rattle.snapshot.specs.Sizes.{definition_size, scope_size, import_size, extern_size, member_size}
use Rattle.snapshot.specs.Records.{dependency_at, child_at, definition_at, scope_at, import_at, extern_at, member_at}
use Rattle.snapshot.specs.Layouts.{dependency_base, child_base, definition_base, scope_base}
use Rattle.snapshot.specs.Layouts.{import_base, extern_base, member_base, snap_of}
use Rattle.snapshot.specs.declared.layout.Layout.{Layout}
use Rattle.snapshot.proofs.Laws.{length_rows}
use Rattle.check_rules.specs.Tests.{Counts, counts_of}
use Rattle.check_records.specs.record_rules.Stands.{counts_in}
use Rattle.accept.specs.Valid.{DependencyFits, ChildFits, DefinitionFits, ScopeFits, ImportFits}
use Rattle.accept.specs.Valid.{ExternFits, MemberFits, Ranges, Valid}
use Rattle.accept.proofs.Bools.{each_rows}

-- the counts of the lists are those of the layout
pub counts_read : (W A : List ℕ) (l : Layout) → counts_of (snap_of W A l) ≡ counts_in l
counts_read W A l = rw (length_rows, length_rows, length_rows, length_rows, length_rows)

module _ (W A : List ℕ) (l : Layout) (v : Valid (snap_of W A l)) where
  pub ranges_read : Ranges (counts_in l) (snap_of W A l)
  ranges_read = subst (λ (n : Counts). Ranges n (snap_of W A l)) (counts_read W A l) v.ranges

  pub dependency_read : (k : ℕ) → k < l.dependencies → DependencyFits (counts_in l) (dependency_at W (dependency_base l + dependency_size * k))
  dependency_read k h = each_rows (λ k. dependency_at W (dependency_base l + dependency_size * k)) l.dependencies k ranges_read.dependencies h

  pub child_read : (k : ℕ) → k < l.children → ChildFits (counts_in l) (child_at W (child_base l + child_size * k))
  child_read k h = each_rows (λ k. child_at W (child_base l + child_size * k)) l.children k ranges_read.children h

  pub definition_read : (k : ℕ) → k < l.definitions → DefinitionFits (counts_in l) (definition_at W (definition_base l + definition_size * k))
  definition_read k h = each_rows (λ k. definition_at W (definition_base l + definition_size * k)) l.definitions k ranges_read.definitions h

  pub scope_read : (k : ℕ) → k < l.scopes → ScopeFits (counts_in l) (scope_at W (scope_base l + scope_size * k))
  scope_read k h = each_rows (λ k. scope_at W (scope_base l + scope_size * k)) l.scopes k ranges_read.scopes h

  pub import_read : (k : ℕ) → k < l.imports → ImportFits (counts_in l) (import_at W (import_base l + import_size * k))
  import_read k h = each_rows (λ k. import_at W (import_base l + import_size * k)) l.imports k ranges_read.imports h

  pub extern_read : (k : ℕ) → k < l.externs → ExternFits (counts_in l) (extern_at W (extern_base l + extern_size * k))
  extern_read k h = each_rows (λ k. extern_at W (extern_base l + extern_size * k)) l.externs k ranges_read.externs h

  pub member_read : (k : ℕ) → k < l.members → MemberFits (counts_in l) (member_at W (member_base l + member_size * k))
  member_read k h = each_rows (λ k. member_at W (member_base l + member_size * k)) l.members k ranges_read.members h
