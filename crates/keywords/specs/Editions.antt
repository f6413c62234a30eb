-- How many of the keywords, from the first on, an edition has. Only contracts and proofs cite it.
use Rattle.std.specs.Prelude.{ℕ, true, false, ltb}

unfoldable pub keywords_in : ℕ → ℕ
keywords_in e =
    elim (ltb e 2015)
    [ true ↦ 0 | false ↦ elim (ltb e 2018) [ true ↦ 48 | false ↦ elim (ltb e 2024) [ true ↦ 52 | false ↦ 53 ] ] ]
