use mathlib.Core.Path.{sym, ap, ◌∙◌}
use Rattle.std.specs.Prelude.{Option, Some}
use Rattle.nameable.specs.Paths.{place_in}
use Rattle.any_path.specs.Plain.{record_read}
use Rattle.any_path.specs.declared.plain.Reading.{Reading}
use Rattle.any_path.proofs.plain.place_read.Goals as goal

pub returns-in-Some-Scope : goal.returns-in-Some-Scope
unfolding place_in record_read
returns-in-Some-Scope c =
    λ s W.
    sym (ap (λ (x : Option Reading). place_in (record_read s W x))
    (c.in-Some-Scope.is ∙ ap Some (rw c.in-Some-Scope.is at c.in-Some-Scope.field-0-is)))

pub returns-in-Some-Extern : goal.returns-in-Some-Extern
unfolding place_in record_read
returns-in-Some-Extern c =
    λ s W.
    sym (ap (λ (x : Option Reading). place_in (record_read s W x))
    (c.in-Some-Extern.is ∙ ap Some (rw c.in-Some-Extern.is at c.in-Some-Extern.field-0-is)))

pub returns-in-None : goal.returns-in-None
unfolding place_in record_read
returns-in-None c = λ s W. sym (ap (λ (x : Option Reading). place_in (record_read s W x)) c.in-None.is)
