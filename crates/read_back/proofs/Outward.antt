-- The steps out of blocks fall, and end.
use Prim.Native.Nat.{ℕ, suc, ◌<◌}
use mathlib.Core.Path.{◌≡◌, sym, ◌∙◌}
use native.Mathlib.Omega.{arith}
use borrow.Author.Tests.{eq-eqb, ne_eqb, eqb-true, eqb-false}
use lib.Dec.{eqb}
use lib.ListN.{length}
use mathlib.Core.List.{List}
use Rattle.snapshot.specs.Layouts.{snap_of}
use Rattle.snapshot.specs.Records.{Snapshot}
use Rattle.snapshot.specs.declared.layout.Layout.{Layout}
use Rattle.accept.specs.Post.{Reads}
use Rattle.accept.proofs.Trees.{accepted_tree}
use Rattle.hir_def.proofs.Reading.{length_modules}
use Rattle.accept.specs.Valid.{Tree}
use Rattle.accept.proofs.Accepted.{by_test}
use Rattle.module_tree.specs.rules.Modules.{parent_of, block_of}
use Rattle.module_tree.specs.rules.Visibility.{last_or}
use Rattle.module_tree.proofs.Chains.{block_falls}
use Rattle.module_tree.proofs.Laws.{Falls, last_more}
use Rattle.read_back.specs.readings.Reads.{outward, stands_for}

module _ (s : Snapshot) (m : ℕ) where
  pub outward_root : parent_of s m ≡ 0 → outward s m ≡ block_of s m
  unfolding outward
  outward_root e = rw (outward, eq-eqb _ _ e)

  pub outward_not : {p : ℕ} → parent_of s m ≡ suc p → 0 ≡ outward s m
  unfolding outward
  outward_not e = rw (outward, ne_eqb (parent_of s m) 0 (λ z. omega arith))

pub outward_none : (s : Snapshot) (m : ℕ) → (parent_of s m ≡ 0 → ⊥) → outward s m ≡ 0
unfolding outward
outward_none s m h = rw (outward, ne_eqb _ _ h)

pub outward_falls : (s : Snapshot) → Tree s.maps s.modules → Falls (outward s) (length s.modules)
outward_falls s t v w h k =
    by_test (eqb (parent_of s v) 0)
    (λ e. block_falls s t v w h (sym (outward_root s v (eqb-true _ _ e)) ∙ k))
    (λ e. absurd (let z : outward s v ≡ 0 = outward_none s v (eqb-false _ _ e) in omega arith))

module _ (s : Snapshot) (falls : Falls (outward s) (length s.modules)) (t : ℕ) (h : t < length s.modules) where
  stands_more : stands_for s t ≡ last_or (stands_for s) t (outward s t)
  unfolding stands_for
  stands_more = last_more (outward s) (length s.modules) falls t h

  pub stands_here : outward s t ≡ 0 → t ≡ stands_for s t
  unfolding last_or
  stands_here e = sym (stands_more ∙ rw e)

  pub stands_on : (b : ℕ) → outward s t ≡ suc b → stands_for s t ≡ stands_for s b
  unfolding last_or
  stands_on b e = stands_more ∙ rw e

-- those of an accepted tree
pub outward_down : {W A : List ℕ} {l : Layout} → Reads W A l → Falls (outward (snap_of W A l)) l.modules
outward_down {W} {A} {l} r v w i = outward_falls (snap_of W A l) (accepted_tree W (snap_of W A l) r.same) v w (rw (length_modules W A l) i)
