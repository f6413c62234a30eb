-- Small snapshots joined, and each refusal, computed.
use Prim.Native.Nat.{ℕ, ◌+◌}
use mathlib.Core.Path.{◌≡◌, refl}
use mathlib.Core.List.{List, [], ◌∷◌, ◌++◌, map}
use mathlib.Core.Bool.{Bool, true, false, ◌&&◌}
use lib.Dec.{eqb, ltb}
use lib.ListN.{length}
use Rattle.std.specs.Prelude.{⊤}
use Rattle.snapshot.specs.Lists.{rows, eq_list}
use Rattle.snapshot.specs.Records.{Snapshot}
use Rattle.check_rules.specs.Verdict.{verdict}
use Rattle.check_rules.specs.Worked.{verdict_on_literals, worked}
use Rattle.hir_def.specs.Finds.{place_of, select}
use Rattle.find_path_spec.specs.Line.{snapshot_of}
use Rattle.find_path_spec.proofs.Worked.{Row, row, row_at, passes, cases, with_dependency, dependency_cases, with_std, std_cases, head, named}
use Rattle.edit_rules.specs.Entries.{scope_words}
use Rattle.edit_rules.specs.Written.{each_words, tree_words, snapshot_words}
use Rattle.edit_rules.specs.Written as written
use Rattle.join_rules.specs.Joined.{merged, merged_number, name_number, definition_number, Numbers, second_numbers, question_to, together, Joining}
use Rattle.join_rules.specs.Joined.{refused_by, joined_as, join_in, join_by, join_of}

-- what a row unfolds to compute the join of words that are written out
unfoldable join_on_literals : ⊤
unfolding join_of join_by join_in together merged merged_number name_number definition_number snapshot_words written.joined each_words
    tree_words scope_words place_of select verdict_on_literals
join_on_literals = tt

-- the words of a work area, both inputs, the words of the target, and what comes of it
pub record Call : Type 0 where
  pub area : ℕ
  pub first : List ℕ
  pub second : List ℕ
  pub room : ℕ
  pub joining : Joining

pub alike : Joining → Joining → Bool
alike (refused_by m) (refused_by n) = eqb m n
alike (refused_by m) (joined_as ys) = false
alike (joined_as xs) (refused_by n) = false
alike (joined_as xs) (joined_as ys) = eq_list xs ys

pub agrees : List Call → Bool
agrees [] = true
agrees (c ∷ cs) = alike (join_of c.area c.first c.second c.room) c.joining && agrees cs

-- the worked snapshot and itself: both names are shared
pub twice : List ℕ
twice =
    0x10000001 ∷ 97 ∷ 0x10000001 ∷ 102 ∷ 0x20000000 ∷ 2021 ∷ 0x20000000 ∷ 2021 ∷ 0x40000000 ∷ 0 ∷ 0 ∷ 0x50000000 ∷ 0 ∷ 0x50000000 ∷ 1
    ∷ 0x40000001 ∷ 0 ∷ 0 ∷ 0x50000001 ∷ 0 ∷ 0x50000001 ∷ 3 ∷ 0x60000000 ∷ 1 ∷ 0x60000002 ∷ 3 ∷ 0x80000001 ∷ 1 ∷ 0 ∷ 0x80000004 ∷ 1 ∷ 0
    ∷ 0x80000001 ∷ 3 ∷ 0 ∷ 0x80000004 ∷ 3 ∷ 0 ∷ 0x90000000 ∷ 0 ∷ 0 ∷ 0 ∷ 0 ∷ 0 ∷ 1 ∷ 0 ∷ 0x90000001 ∷ 1 ∷ 1 ∷ 1 ∷ 0 ∷ 0 ∷ 1 ∷ 0
    ∷ 0x90000002 ∷ 0 ∷ 0 ∷ 2 ∷ 0 ∷ 0 ∷ 1 ∷ 0 ∷ 0x90000003 ∷ 1 ∷ 1 ∷ 3 ∷ 0 ∷ 0 ∷ 1 ∷ 0 ∷ []

-- Names `x`, `u8` and `m`; definition 1 is `u8`.
pub few : List ℕ
few =
    0x10000001 ∷ 120 ∷ 0x10000002 ∷ 14453 ∷ 0x10000001 ∷ 109 ∷ 0x20000000 ∷ 2021 ∷ 0x40000000 ∷ 0 ∷ 0 ∷ 0x50000000 ∷ 0 ∷ 0x50000000
    ∷ 1 ∷ 0x80000004 ∷ 0 ∷ 0 ∷ 0x80000003 ∷ 1 ∷ 0 ∷ 0x90000000 ∷ 0 ∷ 1 ∷ 1 ∷ 0 ∷ 0 ∷ 1 ∷ 0 ∷ []

-- Every kind of record; names `m`, `u8`, `E`, `V` and `str`; definition 0 is `u8`, 4 is `str`; visibilities of each kind, and a block's map.
pub every : List ℕ
every =
    0x10000001 ∷ 109 ∷ 0x10000002 ∷ 14453 ∷ 0x10000001 ∷ 69 ∷ 0x10000001 ∷ 86 ∷ 0x10000003 ∷ 7500915 ∷ 0x20000000 ∷ 2021 ∷ 0x20000001
    ∷ 2018 ∷ 0x30000000 ∷ 1 ∷ 1 ∷ 0x40000000 ∷ 0 ∷ 0 ∷ 0x50000000 ∷ 0 ∷ 0x50000000 ∷ 1 ∷ 0x40000001 ∷ 0 ∷ 1 ∷ 0x50000001 ∷ 0
    ∷ 0x40000000 ∷ 2 ∷ 0 ∷ 0x50000002 ∷ 0 ∷ 0x60000000 ∷ 1 ∷ 0x70000000 ∷ 2 ∷ 0x80000003 ∷ 1 ∷ 0 ∷ 0x80000001 ∷ 1 ∷ 0 ∷ 0x80000004 ∷ 1
    ∷ 0 ∷ 0x80000002 ∷ 2 ∷ 3 ∷ 0x80000003 ∷ 4 ∷ 0 ∷ 0x80000005 ∷ 0 ∷ 0 ∷ 0x90000000 ∷ 0 ∷ 0 ∷ 1 ∷ 0 ∷ 0 ∷ 1 ∷ 0 ∷ 0x90000001 ∷ 0 ∷ 2 ∷ 2
    ∷ 1 ∷ 0 ∷ 1 ∷ 0 ∷ 0x90000000 ∷ 2 ∷ 3 ∷ 5 ∷ 2 ∷ 0 ∷ 2 ∷ 0 ∷ 0x90000003 ∷ 0 ∷ 1 ∷ 0 ∷ 3 ∷ 3 ∷ 0 ∷ 3 ∷ 0xa0000001 ∷ 0 ∷ 2 ∷ 2 ∷ 2 ∷ 0
    ∷ 0xb0000000 ∷ 0 ∷ 2 ∷ 0xd0000002 ∷ 3 ∷ 3 ∷ 0 ∷ 1 ∷ []

-- `m` and `u8` are the first's; the second's definitions fall by one, and its other names follow `m`
pub few_every : List ℕ
few_every =
    0x10000001 ∷ 120 ∷ 0x10000002 ∷ 14453 ∷ 0x10000001 ∷ 109 ∷ 0x10000001 ∷ 69 ∷ 0x10000001 ∷ 86 ∷ 0x10000003 ∷ 7500915 ∷ 0x20000000
    ∷ 2021 ∷ 0x20000000 ∷ 2021 ∷ 0x20000001 ∷ 2018 ∷ 0x30000001 ∷ 2 ∷ 1 ∷ 0x40000000 ∷ 0 ∷ 0 ∷ 0x50000000 ∷ 0 ∷ 0x50000000 ∷ 1
    ∷ 0x40000001 ∷ 0 ∷ 0 ∷ 0x50000001 ∷ 0 ∷ 0x50000001 ∷ 3 ∷ 0x40000002 ∷ 0 ∷ 1 ∷ 0x50000002 ∷ 0 ∷ 0x40000001 ∷ 4 ∷ 0 ∷ 0x50000003 ∷ 0
    ∷ 0x60000002 ∷ 3 ∷ 0x70000001 ∷ 4 ∷ 0x80000004 ∷ 0 ∷ 0 ∷ 0x80000003 ∷ 1 ∷ 0 ∷ 0x80000001 ∷ 3 ∷ 0 ∷ 0x80000004 ∷ 3 ∷ 0 ∷ 0x80000002
    ∷ 3 ∷ 4 ∷ 0x80000003 ∷ 5 ∷ 0 ∷ 0x80000005 ∷ 2 ∷ 0 ∷ 0x90000000 ∷ 0 ∷ 1 ∷ 1 ∷ 0 ∷ 0 ∷ 1 ∷ 0 ∷ 0x90000002 ∷ 0 ∷ 2 ∷ 2 ∷ 0 ∷ 0 ∷ 1 ∷ 0
    ∷ 0x90000003 ∷ 0 ∷ 3 ∷ 3 ∷ 1 ∷ 1 ∷ 1 ∷ 0 ∷ 0x90000002 ∷ 2 ∷ 4 ∷ 6 ∷ 2 ∷ 2 ∷ 2 ∷ 0 ∷ 0x90000005 ∷ 0 ∷ 1 ∷ 1 ∷ 3 ∷ 5 ∷ 0 ∷ 3
    ∷ 0xa0000002 ∷ 0 ∷ 3 ∷ 3 ∷ 4 ∷ 0 ∷ 0xb0000001 ∷ 2 ∷ 4 ∷ 0xd0000003 ∷ 4 ∷ 4 ∷ 0 ∷ 1 ∷ []

pub every_few : List ℕ
every_few =
    0x10000001 ∷ 109 ∷ 0x10000002 ∷ 14453 ∷ 0x10000001 ∷ 69 ∷ 0x10000001 ∷ 86 ∷ 0x10000003 ∷ 7500915 ∷ 0x10000001 ∷ 120 ∷ 0x20000000
    ∷ 2021 ∷ 0x20000001 ∷ 2018 ∷ 0x20000000 ∷ 2021 ∷ 0x30000000 ∷ 1 ∷ 1 ∷ 0x40000000 ∷ 0 ∷ 0 ∷ 0x50000000 ∷ 0 ∷ 0x50000000 ∷ 1
    ∷ 0x40000001 ∷ 0 ∷ 1 ∷ 0x50000001 ∷ 0 ∷ 0x40000000 ∷ 2 ∷ 0 ∷ 0x50000002 ∷ 0 ∷ 0x40000002 ∷ 0 ∷ 0 ∷ 0x50000003 ∷ 0 ∷ 0x50000003 ∷ 5
    ∷ 0x60000000 ∷ 1 ∷ 0x70000000 ∷ 2 ∷ 0x80000003 ∷ 1 ∷ 0 ∷ 0x80000001 ∷ 1 ∷ 0 ∷ 0x80000004 ∷ 1 ∷ 0 ∷ 0x80000002 ∷ 2 ∷ 3 ∷ 0x80000003
    ∷ 4 ∷ 0 ∷ 0x80000005 ∷ 0 ∷ 0 ∷ 0x80000004 ∷ 4 ∷ 0 ∷ 0x90000000 ∷ 0 ∷ 0 ∷ 1 ∷ 0 ∷ 0 ∷ 1 ∷ 0 ∷ 0x90000001 ∷ 0 ∷ 2 ∷ 2 ∷ 1 ∷ 0 ∷ 1 ∷ 0
    ∷ 0x90000000 ∷ 2 ∷ 3 ∷ 5 ∷ 2 ∷ 0 ∷ 2 ∷ 0 ∷ 0x90000003 ∷ 0 ∷ 1 ∷ 0 ∷ 3 ∷ 3 ∷ 0 ∷ 3 ∷ 0x90000004 ∷ 0 ∷ 1 ∷ 0 ∷ 0 ∷ 0 ∷ 1 ∷ 0
    ∷ 0xa0000001 ∷ 0 ∷ 2 ∷ 2 ∷ 2 ∷ 0 ∷ 0xb0000000 ∷ 0 ∷ 2 ∷ 0xd0000002 ∷ 3 ∷ 3 ∷ 0 ∷ 1 ∷ []

pub every_twice : List ℕ
every_twice =
    0x10000001 ∷ 109 ∷ 0x10000002 ∷ 14453 ∷ 0x10000001 ∷ 69 ∷ 0x10000001 ∷ 86 ∷ 0x10000003 ∷ 7500915 ∷ 0x20000000 ∷ 2021 ∷ 0x20000001
    ∷ 2018 ∷ 0x20000000 ∷ 2021 ∷ 0x20000001 ∷ 2018 ∷ 0x30000000 ∷ 1 ∷ 1 ∷ 0x30000002 ∷ 3 ∷ 1 ∷ 0x40000000 ∷ 0 ∷ 0 ∷ 0x50000000 ∷ 0
    ∷ 0x50000000 ∷ 1 ∷ 0x40000001 ∷ 0 ∷ 1 ∷ 0x50000001 ∷ 0 ∷ 0x40000000 ∷ 2 ∷ 0 ∷ 0x50000002 ∷ 0 ∷ 0x40000002 ∷ 0 ∷ 0 ∷ 0x50000003 ∷ 0
    ∷ 0x50000003 ∷ 5 ∷ 0x40000003 ∷ 0 ∷ 1 ∷ 0x50000004 ∷ 0 ∷ 0x40000002 ∷ 6 ∷ 0 ∷ 0x50000005 ∷ 0 ∷ 0x60000000 ∷ 1 ∷ 0x60000004 ∷ 5
    ∷ 0x70000000 ∷ 2 ∷ 0x70000003 ∷ 6 ∷ 0x80000003 ∷ 1 ∷ 0 ∷ 0x80000001 ∷ 1 ∷ 0 ∷ 0x80000004 ∷ 1 ∷ 0 ∷ 0x80000002 ∷ 2 ∷ 3 ∷ 0x80000003
    ∷ 4 ∷ 0 ∷ 0x80000005 ∷ 0 ∷ 0 ∷ 0x80000001 ∷ 5 ∷ 0 ∷ 0x80000004 ∷ 5 ∷ 0 ∷ 0x80000002 ∷ 7 ∷ 3 ∷ 0x80000005 ∷ 4 ∷ 0 ∷ 0x90000000 ∷ 0
    ∷ 0 ∷ 1 ∷ 0 ∷ 0 ∷ 1 ∷ 0 ∷ 0x90000001 ∷ 0 ∷ 2 ∷ 2 ∷ 1 ∷ 0 ∷ 1 ∷ 0 ∷ 0x90000000 ∷ 2 ∷ 3 ∷ 5 ∷ 2 ∷ 0 ∷ 2 ∷ 0 ∷ 0x90000003 ∷ 0 ∷ 1 ∷ 0
    ∷ 3 ∷ 3 ∷ 0 ∷ 3 ∷ 0x90000004 ∷ 0 ∷ 0 ∷ 6 ∷ 0 ∷ 0 ∷ 1 ∷ 0 ∷ 0x90000005 ∷ 0 ∷ 2 ∷ 7 ∷ 1 ∷ 2 ∷ 1 ∷ 0 ∷ 0x90000004 ∷ 2 ∷ 3 ∷ 9 ∷ 2 ∷ 4
    ∷ 2 ∷ 0 ∷ 0x90000007 ∷ 0 ∷ 1 ∷ 0 ∷ 3 ∷ 7 ∷ 0 ∷ 3 ∷ 0xa0000001 ∷ 0 ∷ 2 ∷ 2 ∷ 2 ∷ 0 ∷ 0xa0000003 ∷ 0 ∷ 7 ∷ 2 ∷ 6 ∷ 0 ∷ 0xb0000000 ∷ 0
    ∷ 2 ∷ 0xb0000002 ∷ 0 ∷ 6 ∷ 0xd0000002 ∷ 3 ∷ 3 ∷ 0 ∷ 1 ∷ 0xd0000007 ∷ 3 ∷ 8 ∷ 0 ∷ 1 ∷ []

-- so many crates, each with its map and its root
pub crates : ℕ → List ℕ
crates n =
    written.joined (rows (λ k. 0x20000000 ∷ 2021 ∷ []) 0 n)
    ++ written.joined (rows (λ k. (0x40000000 + k) ∷ 0 ∷ 0 ∷ (0x50000000 + k) ∷ 0 ∷ []) 0 n)

pub worked_joins : agrees (record { area = 16384; first = worked; second = worked; room = 70; joining = joined_as twice }
    ∷ record { area = 16384; first = few; second = every; room = 16384; joining = joined_as few_every }
    ∷ record { area = 16384; first = every; second = few; room = 16384; joining = joined_as every_few }
    ∷ record { area = 16384; first = every; second = every; room = 16384; joining = joined_as every_twice }
    ∷ record { area = 16384; first = []; second = worked; room = 37; joining = joined_as worked }
    ∷ record { area = 16384; first = worked; second = []; room = 38; joining = joined_as worked }
    -- a target one word short; 65 crates
    ∷ record { area = 16384; first = worked; second = worked; room = 69; joining = refused_by 51 }
    ∷ record { area = 16384; first = worked; second = crates 64; room = 16384; joining = refused_by 51 }
    -- the first's fault, then the second's, before that
    ∷ record { area = 16384; first = 0x20000005 ∷ 2021 ∷ []; second = 0 ∷ []; room = 0; joining = refused_by 32 }
    ∷ record { area = 16384; first = worked; second = 0 ∷ []; room = 0; joining = refused_by 31 }
    ∷ record { area = 16383; first = 0 ∷ []; second = 0 ∷ []; room = 0; joining = refused_by 20 }
    -- words too many; a crate that is not there; a name again; a crate without a map; 65 crates of one part; an edition
    ∷ record { area = 16384; first = rows (λ k. 0) 0 16385; second = []; room = 0; joining = refused_by 30 }
    ∷ record { area = 16384; first = 0x30000000 ∷ 0 ∷ 0 ∷ []; second = []; room = 0; joining = refused_by 33 }
    ∷ record { area = 16384; first = 0x10000001 ∷ 97 ∷ 0x10000001 ∷ 97 ∷ []; second = []; room = 0; joining = refused_by 34 }
    ∷ record { area = 16384; first = 0x20000000 ∷ 2021 ∷ []; second = []; room = 0; joining = refused_by 35 }
    ∷ record { area = 16384; first = crates 65; second = []; room = 0; joining = refused_by 36 }
    ∷ record { area = 16384; first = 0x20000000 ∷ 2020 ∷ []; second = []; room = 0; joining = refused_by 43 }
    ∷ record { area = 16384; first = worked; second = 0x20000000 ∷ 2020 ∷ []; room = 0; joining = refused_by 43 }
    ∷ []) ≡ true
unfolding agrees alike twice few every few_every every_few every_twice crates join_on_literals
worked_joins = refl

-- the lines of each part's questions, put with their numbers moved, on the joined words
abbrev row_to : Numbers → Row → Row
row_to e r = record { question = question_to e r.question; line = r.line }

-- definition and module exist in the part
abbrev is_known : Snapshot → Row → Bool
is_known s r = ltb r.question.query.definition.0 (length s.definitions) && ltb r.question.query.from.0 (length s.modules)

pub words_by : Joining → List ℕ
words_by (refused_by n) = []
words_by (joined_as ws) = ws

pub join_passes : List ℕ → List ℕ → List Row → List Row → Bool
join_passes W X first second =
    let s = snapshot_of (verdict W) in
    let t = snapshot_of (verdict X) in
    let ws = words_by (join_of 16384 W X 16384) in
    passes ws (select (is_known s) first) && passes ws (map (row_to (second_numbers s t)) (select (is_known t) second))

pub worked_twice : join_passes worked worked cases cases
    && passes twice (row 4 0 0 1 0 9 "refused 23 0 0" ∷ row 1 1 4 1 0 9 "refused 23 0 0" ∷ row 2 2 2 1 0 9 "refused 24 0 0" ∷ []) ≡ true
unfolding join_passes words_by twice passes cases dependency_cases std_cases row_at with_dependency with_std head named snapshot_of
    join_on_literals
worked_twice = refl

-- names and `u8` are shared
pub dependency_twice : join_passes with_dependency with_dependency dependency_cases dependency_cases ≡ true
unfolding join_passes words_by twice passes cases dependency_cases std_cases row_at with_dependency with_std head named snapshot_of
    join_on_literals
dependency_twice = refl

pub dependency_std : join_passes with_dependency with_std dependency_cases std_cases ≡ true
unfolding join_passes words_by twice passes cases dependency_cases std_cases row_at with_dependency with_std head named snapshot_of
    join_on_literals
dependency_std = refl
