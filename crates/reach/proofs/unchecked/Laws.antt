-- Laws of the entry point.
use Prim.Native.Nat.{ℕ, ◌≤◌, ◌<◌}
use mathlib.Core.Path.{◌≡◌, ◌∙◌, ap}
use mathlib.Core.List.{List}
use native.Mathlib.Omega.{arith}
use borrow.Author.Tests.{ltb-true, ltb-false}
use lib.Dec.{ltb}
use lib.ListN.{length}
use Rattle.snapshot.specs.Limits.{area_limit}
use Rattle.snapshot.specs.Refusals.{area_refusal}
use Rattle.accept.proofs.Accepted.{by_test}
use Rattle.reach.specs.declared.parts.Viewer.{Viewer}
use Rattle.reach.specs.parts.Reach.{Reach, query_for, refused_reach, reach_unless, reach_of}
use Rattle.answer.proofs.checked.Laws.{small, same_fault}
use Rattle.answer.specs.Answers.{area_after}
use Rattle.reach.specs.unchecked.Reaches.{Reaches}

pub reaches_by : (W A : List ℕ) (v : Viewer) (r : Reach) (B : List ℕ) → B ≡ area_after A → (length A < area_limit → r ≡ refused_reach area_refusal)
    → (area_limit ≤ length A → r ≡ reach_of W area_limit v) → Reaches W A v B r
unfolding reach_of reach_unless
reaches_by W A v r B e f g =
    let q = query_for v 0 0 in
    record {
      reach =
          by_test (ltb (length A) area_limit)
          (λ t. let h = ltb-true _ _ t in f h ∙ ap (reach_unless W v) (small (length A) q v.fuel h))
          (λ t. let h = ltb-false _ _ t in g h ∙ ap (reach_unless W v) (same_fault area_limit (length A) q v.fuel (omega arith) h));
      area = e;
    }
