-- Laws of what fits, and of a part that goes on to the end.
use Prim.Native.Nat.{ℕ, ◌-◌, ◌*◌, ◌/◌, ◌%◌, ◌≤◌, ◌<◌}
use mathlib.Core.Path.{◌≡◌}
use mathlib.Core.Bool.{Bool, true, false, ◌&&◌, false≢true}
use mathlib.Core.List.{List}
use native.Mathlib.Omega.{arith}
use borrow.Author.Tests.{lt-leb, le-leb, leb-true}
use borrow.Rule.Slice.PartMut.{mid_of}
use lib.Dec.{eqb, leb}
use lib.ListN.{length, drop, length-drop}
use lib.Seq.{take_all}
use Rattle.reports.specs.Written.{report_size}
use Rattle.snapshot.specs.Sizes.{question_size}
use Rattle.reports.specs.questions.Fits.{batch_fits, question_limit}

-- what fits

pub fits_not : (n m : ℕ) → question_limit < n / question_size → false ≡ batch_fits n m
unfolding batch_fits
fits_not n m h = rw (batch_fits, lt-leb _ _ h)

pub fits_by : (n m : ℕ) → n / question_size ≤ question_limit
    → (eqb (n % question_size) 0 && leb (report_size * (n / question_size)) m) ≡ batch_fits n m
unfolding batch_fits
fits_by n m h = rw (batch_fits, le-leb _ _ h)

and_true : (a b c : Bool) → (a && (b && c)) ≡ true → c ≡ true
and_true true true c e = e
and_true true false c e = absurd (false≢true e)
and_true false b c e = absurd (false≢true e)

pub fits_room : (n m : ℕ) → batch_fits n m ≡ true → report_size * (n / question_size) ≤ m
unfolding batch_fits
fits_room n m e = leb-true _ _ (and_true (leb (n / question_size) question_limit) (eqb (n % question_size) 0)
    (leb (report_size * (n / question_size)) m) e)

-- a part that goes on to the end

pub mid_end : (a : ℕ) (l : List ℕ) → mid_of a (length l - a) l ≡ drop a l
mid_end a l = take_all (length l - a) (drop a l) (omega (arith, length-drop a l))
