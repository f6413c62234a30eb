-- The names of the builtin types, as `BuiltinType` has them.
use Rattle.std.specs.Prelude.{ℕ, ◌+◌, ◌*◌, List, [], ◌∷◌, length}
use Rattle.snapshot.specs.Records.{Name}

-- bytes, three a word, the first lowest
abbrev pub packed : List ℕ → List ℕ
packed [] = []
packed (a ∷ []) = a ∷ []
packed (a ∷ b ∷ []) = (a + 256 * b) ∷ []
packed (a ∷ b ∷ c ∷ r) = (a + 256 * b + 65536 * c) ∷ packed r

abbrev pub spelled : List ℕ → Name
spelled t = record { bytes = length t; text = packed t }

abbrev pub builtins : List Name
builtins =
    spelled (99 ∷ 104 ∷ 97 ∷ 114 ∷ [])  -- char
    ∷ spelled (98 ∷ 111 ∷ 111 ∷ 108 ∷ [])  -- bool
    ∷ spelled (115 ∷ 116 ∷ 114 ∷ [])  -- str
    ∷ spelled (105 ∷ 115 ∷ 105 ∷ 122 ∷ 101 ∷ [])  -- isize
    ∷ spelled (105 ∷ 56 ∷ [])  -- i8
    ∷ spelled (105 ∷ 49 ∷ 54 ∷ [])  -- i16
    ∷ spelled (105 ∷ 51 ∷ 50 ∷ [])  -- i32
    ∷ spelled (105 ∷ 54 ∷ 52 ∷ [])  -- i64
    ∷ spelled (105 ∷ 49 ∷ 50 ∷ 56 ∷ [])  -- i128
    ∷ spelled (117 ∷ 115 ∷ 105 ∷ 122 ∷ 101 ∷ [])  -- usize
    ∷ spelled (117 ∷ 56 ∷ [])  -- u8
    ∷ spelled (117 ∷ 49 ∷ 54 ∷ [])  -- u16
    ∷ spelled (117 ∷ 51 ∷ 50 ∷ [])  -- u32
    ∷ spelled (117 ∷ 54 ∷ 52 ∷ [])  -- u64
    ∷ spelled (117 ∷ 49 ∷ 50 ∷ 56 ∷ [])  -- u128
    ∷ spelled (102 ∷ 49 ∷ 54 ∷ [])  -- f16
    ∷ spelled (102 ∷ 51 ∷ 50 ∷ [])  -- f32
    ∷ spelled (102 ∷ 54 ∷ 52 ∷ [])  -- f64
    ∷ spelled (102 ∷ 49 ∷ 50 ∷ 56 ∷ [])  -- f128
    ∷ []
