-- The keywords without names, in a crate's own map: the search gives no others, so none of them misleads.
use Prim.Native.Nat.{ℕ, suc, ◌<◌}
use mathlib.Core.Path.{◌≡◌, refl, sym, ap, ◌∙◌}
use mathlib.Core.List.{[]}
use Rattle.std.specs.Prelude.{Some}
use native.Mathlib.Omega.{arith}
use borrow.Author.Tests.{eqb-true, eqb-false}
use lib.Dec.{eqb}
use lib.ListN.{length}
use Rattle.snapshot.specs.Records.{Snapshot}
use Rattle.accept.specs.Valid.{Tree}
use Rattle.accept.proofs.Accepted.{by_test}
use Rattle.module_tree.specs.rules.Modules.{map_of, parent_of, block_of, crate_root}
use Rattle.module_tree.proofs.Chains.{parent_fits}
use Rattle.hir_def.specs.Items.{module_item}
use Rattle.read_back.specs.readings.Reads.{self_kind, super_kind, crate_kind, stands_for, follow, parent_means, reads_to}
use Rattle.read_back.proofs.Outward.{outward_root, outward_none, outward_falls, stands_here}

module _ (s : Snapshot) (from ns : ℕ) where
  pub crate_reads : reads_to s from ns crate_kind [] ≡ Some (module_item (crate_root s from))
  unfolding reads_to follow
  crate_reads = refl

  module _ (t : Tree s.maps s.modules) (own : block_of s from ≡ 0) (h : from < length s.modules) where
    -- a module of a crate's own map stands for itself
    stays : (m : ℕ) → m < length s.modules → block_of s m ≡ 0 → m ≡ stands_for s m
    stays m k e =
        stands_here s (outward_falls s t) m k
        (by_test (eqb (parent_of s m) 0) (λ u. outward_root s m (eqb-true _ _ u) ∙ e) (λ u. outward_none s m (eqb-false _ _ u)))

    pub self_reads : reads_to s from ns self_kind [] ≡ Some (module_item from)
    unfolding reads_to follow
    self_reads = sym (ap (λ m. Some (module_item m)) (stays from h own))

    pub super_reads : (p : ℕ) → parent_of s from ≡ suc p → reads_to s from ns super_kind [] ≡ Some (module_item p)
    unfolding reads_to follow parent_means
    super_reads p e =
        let f = parent_fits s t from p h e in
        let k : p < length s.modules = omega (arith, f.0, h) in
        ap (λ m. parent_means s (parent_of s m)) (sym (stays from h own)) ∙ ap (parent_means s) e
        ∙ sym (ap (λ m. Some (module_item m)) (stays p k (ap (λ i. (map_of s i).block) f.1 ∙ own)))
