-- What is found in scopes is in range.
use Prim.Native.Nat.{ℕ}
use mathlib.Core.Path.{◌≡◌, sym, ◌∙◌}
use mathlib.Core.List.{List, [], ◌∷◌}
use Rattle.std.specs.Prelude.{Option, Some}
use native.Mathlib.Omega.{arith}
use Rattle.snapshot.specs.Records.{scope_at}
use Rattle.snapshot.specs.Layouts.{snap_of}
use Rattle.snapshot.specs.declared.layout.Layout.{Layout}
use Rattle.check_records.specs.record_rules.Stands.{counts_in}
use Rattle.accept.specs.Post.{Reads}
use Rattle.accept.specs.Valid.{ScopeFits}
use Rattle.module_tree.proofs.Laws.{by_option}
use Rattle.hir_def.specs.Finds.{first_some}
use Rattle.hir_def.specs.ItemScope.{get}
use Rattle.hir_def.proofs.Fits.{get_fits}
use Rattle.read_back.specs.readings.Reads.{scopes_from, entry_from}

-- the first answer is one of the answers
some_first : {X B C : Type 0} (f : X → Option B) (xs : List X) (y : B) → ((x : X) → f x ≡ Some y → C) → first_some f xs ≡ Some y → C
unfolding first_some
some_first f [] y h e = let z : ◌≡◌ {A = ℕ} 0 1 = cc in absurd (omega arith)
some_first f (x ∷ xs) y h e =
    by_option (f x)
    (λ q. some_first f xs y h (rw (q, first_some) at e))
    (λ z q. let same : Some z ≡ Some y = rw (q, first_some) at e in h x (q ∙ same))

pub from_fits : (W A : List ℕ) (l : Layout) → Reads W A l → (m ns name h : ℕ) → Some (scope_at W h) ≡ entry_from (snap_of W A l) m ns name
    → ScopeFits (counts_in l) (scope_at W h)
unfolding entry_from
from_fits W A l r m ns name h e =
    some_first (λ a. get (snap_of W A l) a ns name) (scopes_from (snap_of W A l) m) (scope_at W h) (λ a q. get_fits W A l r a ns name h (sym q))
    (sym e)
