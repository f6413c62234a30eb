-- What the check of accepted words gives to their readers.
use Prim.Native.Nat.{ℕ}
use mathlib.Core.Path.{◌≡◌, sym, subst}
use mathlib.Core.List.{List}
use mathlib.Core.Bool.{Bool, true, false}
use native.Mathlib.Omega.{arith}
use lib.Dec.{ltb}
use lib.ListN.{length}
use Rattle.snapshot.specs.Limits.{area_limit}
use Rattle.snapshot.specs.Layouts.{snap_of}
use Rattle.snapshot.specs.Records.{Snapshot}
use Rattle.snapshot.specs.declared.layout.Layout.{Layout}
use Rattle.check_rules.specs.Verdict.{refuse, accept, verdict}
use Rattle.accept.specs.Post.{Checked, Reads, Checks, check_of}
use Rattle.std.specs.Prelude.{Ok}

-- what the check accepts, the verdict accepts
verdict_of_lem : (n : ℕ) (W : List ℕ) (s : Snapshot) → accept s ≡ check_of n W → verdict W ≡ accept s
unfolding check_of
verdict_of_lem n W s e = by (ltb n area_limit) e
  where
    by : (b : Bool) → accept s ≡ elim b [ true ↦ refuse 20 0 | false ↦ verdict W ] → verdict W ≡ accept s
    by true q = let z : ◌≡◌ {A = ℕ} 0 1 = cc in absurd (omega arith)
    by false q = sym q

pub reads : (W A₀ A : List ℕ) (l : Layout) (r : Checked) → r ≡ Ok l → Checks W A₀ A r → Reads W A l
reads W A₀ A l r e c =
    let k = subst (λ (x : Checked). Checks W A₀ A x) e c in
    record { same = verdict_of_lem (length A₀) W (snap_of W A l) k.same; tables = k.tables }
