-- What a `?` returns.
use mathlib.Core.Path.{◌≡◌, refl}
use Rattle.std.specs.Prelude.{Result, Err, IsErrAnd}
use Rattle.std.proofs.lemmas.Result.{err_from_is_err_and}

-- an error that it passes on as it is
pub err_is : {T E : Type 0} (r : Result T E) (e : E) → IsErrAnd r (λ y. y ≡ e) → r ≡ Err e
err_is r e h = let p = err_from_is_err_and r h in rw (p.1, p.2) refl
