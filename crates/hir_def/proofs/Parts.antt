-- The records of one crate, in a part of all of a kind.
use Prim.Native.Nat.{ℕ, ◌+◌, ◌*◌, ◌≤◌, ◌<◌}
use mathlib.Core.Path.{◌≡◌, sym, ap, ap₂, subst, ◌∙◌}
use mathlib.Core.List.{List}
use Rattle.snapshot.specs.Sizes.{dependency_size}
use Rattle.snapshot.specs.Records.{dependency_at}
use Rattle.snapshot.specs.Layouts.{dependency_base, dependency_table, snap_of}
use Rattle.snapshot.specs.declared.layout.Layout.{Layout}
use Rattle.record_index.specs.Ranges.{Within, dependency_owner_at}
use Rattle.accept.specs.Post.{Reads}
use Rattle.accept.proofs.Valid.{accepted_valid}
use Rattle.accept.proofs.Reading.{dependency_read}
use Rattle.hir_def.specs.Spans.{Covers, Parted}
use Rattle.hir_def.specs.declared.Part.{Part}
use Rattle.hir_def.specs.declared.Span.{Span}

-- whose the record with its head at h is

abbrev pub dependency_owner : List ℕ → ℕ → ℕ
dependency_owner W h = (dependency_at W h).owner

-- over the span of the kind
inside : {s : Span} {base size n : ℕ} → Covers s base size n → (owner : ℕ → ℕ) (c : ℕ) (p : Part)
    → Within (λ i. owner (base + size * i)) n c p.low p.high
    → (i : ℕ) → i < s.count → owner (s.base + s.size * i) ≡ c → (p.low ≤ i) × (i < p.high)
inside {s} {base} {size} {n} at owner c p w i h e =
    w i (subst (λ k. i < k) at.counts h) (ap owner (ap₂ (λ b z. b + z * i) (sym at.starts) (sym at.sized)) ∙ e)

module _ (W A : List ℕ) (l : Layout) (r : Reads W A l) (c : ℕ) (p : Part) {s : Span} where
  pub dependencies_inside : Covers s (dependency_base l) dependency_size l.dependencies → Parted l A dependency_table c p
      → (i : ℕ) → i < s.count → dependency_owner W (s.base + s.size * i) ≡ c → (p.low ≤ i) × (i < p.high)
  dependencies_inside at f =
      inside at (dependency_owner W) c p
      (f (dependency_owner_at W l) l.dependencies r.tables.index.dependencies
      (λ i h. (dependency_read W A l (accepted_valid W (snap_of W A l) r.same) i h).owner))
