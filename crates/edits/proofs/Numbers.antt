-- The number of a refused edit is not 0: an edit that answers 0 was made.
use Prim.Native.Nat.{ℕ, zero, suc, ◌<◌}
use mathlib.Core.Path.{◌≡◌, refl, subst}
use mathlib.Core.List.{List}
use mathlib.Core.Bool.{Bool, true, false}
use native.Mathlib.Omega.{arith}
use lib.Dec.{ltb}
use lib.ListN.{length, take}
use Rattle.snapshot.specs.Limits.{area_limit}
use Rattle.snapshot.specs.Refusals.{area_refusal, words_refusal}
use Rattle.check_rules.specs.Verdict.{Verdict, refuse, accept, verdict}
use Rattle.accept.proofs.Refused.{verdict_number}
use Rattle.edit_rules.specs.Edits.{Edit, refused_by, edited, Operation, edit_fault, edit_unless, edit_by, edit_within, edit_of}

abbrev EditSome : Edit → Type 0
EditSome (refused_by n) = 0 < n
EditSome (edited S) = Unit {0}

-- one of two, by a test
either : (b : Bool) (x y : Edit) → EditSome x → EditSome y → EditSome (elim b [ true ↦ x | false ↦ y ])
either true x y h k = h
either false x y h k = k

unless_some : (S : List ℕ) (o : Operation) (k : ℕ) → EditSome (edit_unless S o k)
unfolding edit_unless
unless_some S o zero = tt
unless_some S o (suc k) = omega arith

by_some : (S : List ℕ) (slice : ℕ) (o : Operation) (v : Verdict) → verdict S ≡ v → EditSome (edit_by S slice o v)
unfolding edit_by
by_some S slice o (refuse k at) h = let q = verdict_number S k at h in omega arith
by_some S slice o (accept s) h = unless_some S o (edit_fault s (length S) slice o)

within_some : (W : List ℕ) (n : ℕ) (o : Operation) → EditSome (edit_within W n o)
unfolding edit_within
within_some W n o =
    either (ltb (length W) n) (refused_by words_refusal) (edit_by (take n W) (length W) o (verdict (take n W))) (omega arith)
    (by_some (take n W) (length W) o (verdict (take n W)) refl)

edit_some : (area : ℕ) (W : List ℕ) (n : ℕ) (o : Operation) → EditSome (edit_of area W n o)
unfolding edit_of
edit_some area W n o = either (ltb area area_limit) (refused_by area_refusal) (edit_within W n o) (omega arith) (within_some W n o)

pub refused_number : (area : ℕ) (W : List ℕ) (n : ℕ) (o : Operation) (k : ℕ) → edit_of area W n o ≡ refused_by k → 0 < k
refused_number area W n o k e = subst EditSome e (edit_some area W n o)
