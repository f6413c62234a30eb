-- Visibilities by the two numbers of an entry.
use Rattle.std.specs.Prelude.{ℕ, eqb, true, false}
use Rattle.snapshot.specs.declared.ids.Visibility.{Visibility}
use Rattle.snapshot.specs.declared.ids.Visibility.TheVariants.{Public, InCrate, InModule, Implied}

-- the kind of a visibility, and its number

abbrev pub visibility_kind : Visibility → ℕ
visibility_kind Public = 0
visibility_kind (InCrate c) = 1
visibility_kind (InModule m) = 2
visibility_kind (Implied m) = 3

abbrev pub visibility_number : Visibility → ℕ
visibility_number Public = 0
visibility_number (InCrate c) = c.0
visibility_number (InModule m) = m.0
visibility_number (Implied m) = m.0

-- the visibility with that kind and number; above 3 it is a module's, as with 2
abbrev pub visibility_of : ℕ → ℕ → Visibility
visibility_of k n =
    elim (eqb k 0) [
      | true ↦ Public
      | false ↦ elim (eqb k 1) [
        | true ↦ InCrate (record { 0 = n })
        | false ↦ elim (eqb k 3) [ true ↦ Implied (record { 0 = n }) | false ↦ InModule (record { 0 = n }) ]
      ]
    ]
