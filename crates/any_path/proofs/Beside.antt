-- Where the search finds nothing, or what the compiler refuses, and `anyPath` (any_paths of nameable/proofs/Worked.antt) another path or none.
use Prim.Native.Nat.{ℕ}
use Prim.Native.String.{String}
use mathlib.Core.Path.{◌≡◌, refl}
use mathlib.Core.List.{[], ◌∷◌}
use mathlib.Core.Bool.{true}
use Rattle.find_path_spec.proofs.Worked.{Row, row_at, row, passes}
use Rattle.nameable.proofs.Worked.{head, letter, entry, workspace}

-- definition, namespace, viewing module, prefix (1 plain, 2 by crate), and the line
abbrev asked : ℕ → ℕ → ℕ → ℕ → String → Row
asked d ns m p line = row d ns m p 0 100 line

pub search_beside : passes (workspace 2021)
    -- S in `v`: `crate::p::a::B`
    (asked 4 0 4 1 "none - 1 0" ∷ asked 4 0 4 2 "none - 1 0"
    -- the hidden f of the dependency in `p`: `::d::h::f`
    ∷ asked 6 1 1 1 "none - 1 0"
    -- the f of q in `t`, both in a block: `super::super::f`
    ∷ asked 10 1 10 1 "none - 1 0"
    -- the private constructor of S in `a`, which imports it: no path
    ∷ asked 4 1 3 1 "found A 0 0"
    ∷ []) ≡ true
unfolding row_at passes workspace entry letter head
search_beside = refl
