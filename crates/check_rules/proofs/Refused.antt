-- Words that are refused, each by its number and at its place, and the order of the tests of a record: computed.
use Prim.Native.Nat.{ℕ}
use mathlib.Core.Path.{◌≡◌, refl}
use mathlib.Core.List.{List, [], ◌∷◌, map}
use mathlib.Core.Bool.{true, false}
use Rattle.check_rules.specs.Steps.{Next, no, on, judge, judge_crate}
use Rattle.check_rules.specs.Verdict.{Verdict, refuse, accept, empty, verdict}
use Rattle.check_rules.specs.Worked.{verdict_on_literals}

-- number and place of a refusal
pub told : Verdict → List ℕ
told (refuse n at) = n ∷ at ∷ []
told (accept s) = []

pub number : Next → ℕ
number (no n) = n
number (on s) = 0

-- of several tests that fail the first in this order gives the number: 32, 33, 34, 35, 36; of a crate 32, 43, 36
pub order :
    map number (
    judge false false true false false empty
    ∷ judge true false true false false empty
    ∷ judge true true true false false empty
    ∷ judge true true false false false empty
    ∷ judge true true false true false empty
    ∷ judge_crate false false false empty
    ∷ judge_crate true false false empty
    ∷ judge_crate true true false empty
    ∷ []
    )
    ≡ 32 ∷ 33 ∷ 34 ∷ 35 ∷ 36 ∷ 32 ∷ 43 ∷ 36 ∷ []
unfolding number
order = refl

-- names `a` and `f`, a crate, its own map with a module, a definition of kind 4 there; then the words given
pub after : List ℕ → List ℕ
after ws =
    0x10000001 ∷ 0x61 ∷ 0x10000001 ∷ 0x66 ∷ 0x20000000 ∷ 2021 ∷ 0x40000000 ∷ 0 ∷ 0 ∷ 0x50000000 ∷ 0 ∷ 0x80000004 ∷ 0 ∷ 0 ∷ ws

pub refusals :
    map (λ W. told (verdict W)) (
    -- bits past a text's bytes; a text twice; a kind that falls
    (0x10000001 ∷ 0x161 ∷ [])
    ∷ (0x10000001 ∷ 0x61 ∷ 0x10000001 ∷ 0x61 ∷ [])
    ∷ (0x20000000 ∷ 2021 ∷ 0x10000001 ∷ 0x61 ∷ [])
    -- an origin and an edition that are not there, the edition alone
    ∷ (0x20000005 ∷ 2000 ∷ [])
    ∷ (0x20000000 ∷ 2000 ∷ [])
    -- a module without a map; an empty map before another; a crate without a map before one that has it
    ∷ (0x50000000 ∷ 0 ∷ [])
    ∷ (0x20000000 ∷ 2021 ∷ 0x20000000 ∷ 2021 ∷ 0x40000000 ∷ 0 ∷ 0 ∷ 0x40000001 ∷ 0 ∷ 0 ∷ 0x50000001 ∷ 0 ∷ [])
    ∷ (0x20000000 ∷ 2021 ∷ 0x20000000 ∷ 2021 ∷ 0x40000001 ∷ 0 ∷ 0 ∷ 0x50000000 ∷ 0 ∷ [])
    -- a child twice
    ∷ (0x20000000 ∷ 2021 ∷ 0x40000000 ∷ 0 ∷ 0 ∷ 0x50000000 ∷ 0 ∷ 0x50000000 ∷ 1 ∷ 0x60000000 ∷ 1 ∷ 0x60000000 ∷ 1 ∷ [])
    -- `bool` twice
    ∷ (0x10000004 ∷ 0x6f6f62 ∷ 0x6c ∷ 0x80000003 ∷ 0 ∷ 0 ∷ 0x80000003 ∷ 0 ∷ 0 ∷ [])
    -- 4 in the declared field
    ∷ after (0x90000000 ∷ 0 ∷ 0 ∷ 0 ∷ 0 ∷ 0 ∷ 4 ∷ 0 ∷ [])
    -- a member whose parent is a module's definition; a variant by another name, and by its own
    ∷ after (0x80000001 ∷ 0 ∷ 0 ∷ 0xD0000001 ∷ 0 ∷ 0 ∷ 1 ∷ 0 ∷ [])
    ∷ after (0x80000002 ∷ 0 ∷ 0 ∷ 0xD0000000 ∷ 1 ∷ 1 ∷ 0 ∷ 0 ∷ [])
    ∷ after (0x80000002 ∷ 0 ∷ 0 ∷ 0xD0000000 ∷ 0 ∷ 1 ∷ 0 ∷ 0 ∷ [])
    ∷ []
    )
    ≡ (32 ∷ 0 ∷ []) ∷ (34 ∷ 2 ∷ []) ∷ (31 ∷ 2 ∷ []) ∷ (32 ∷ 0 ∷ []) ∷ (43 ∷ 0 ∷ []) ∷ (33 ∷ 0 ∷ []) ∷ (35 ∷ 12 ∷ []) ∷ (35 ∷ 9 ∷ [])
    ∷ (34 ∷ 11 ∷ []) ∷ (34 ∷ 6 ∷ []) ∷ (32 ∷ 14 ∷ []) ∷ (35 ∷ 17 ∷ []) ∷ (35 ∷ 17 ∷ []) ∷ [] ∷ []
unfolding told after verdict_on_literals
refusals = refl
