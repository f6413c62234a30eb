-- Numbers and fields of records, computed: an edit of a definition is told by these rows first.
use Prim.Native.Nat.{ℕ, ◌+◌}
use mathlib.Core.Path.{◌≡◌, refl}
use mathlib.Core.List.{List, [], ◌∷◌, map}
use Rattle.std.specs.Prelude.{Option, Some, None}
use Rattle.snapshot.specs.DefinitionKinds.{definition_kind_number, definition_kind_of}
use Rattle.snapshot.specs.Kinds.{kind_number, kind_with}
use Rattle.snapshot.specs.MemberKinds.{member_kind_number, member_kind_of}
use Rattle.snapshot.specs.Origins.{origin_number}
use Rattle.snapshot.specs.PathKinds.{path_kind_number, path_kind_of}
use Rattle.snapshot.specs.Records.{definition_at, scope_at, member_at}
use Rattle.snapshot.specs.Refusals.{refusal_number}
use Rattle.snapshot.specs.Visibilities.{visibility_kind, visibility_number, visibility_of}
use Rattle.snapshot.specs.reading.Words.{text_at}
use Rattle.snapshot.specs.declared.ids.CrateOrigin.TheVariants.{Ordinary, Core, Alloc, Std, OtherLanguage}
use Rattle.snapshot.specs.declared.refusal.Refusal.TheVariants.{Area, Fuel, Field, Unknown, Macro, Words, Form, Range, Undefined, Repeated, Place}
use Rattle.snapshot.specs.declared.refusal.Refusal.TheVariants.{Count, Bytes, Rest, Question, Edition, Batch, Target, Limit, Entry, Room, Window}
use Rattle.snapshot.specs.declared.refusal.Refusal.TheVariants.{Waits, Join}

-- the number of what a number stands for, +1, or 0
pub again : {A : Type 0} → (A → ℕ) → Option A → ℕ
again number (Some x) = number x + 1
again number None = 0

-- the numbers from 0 to 14
pub numbers : List ℕ
numbers = 0 ∷ 1 ∷ 2 ∷ 3 ∷ 4 ∷ 5 ∷ 6 ∷ 7 ∷ 8 ∷ 9 ∷ 10 ∷ 11 ∷ 12 ∷ 13 ∷ 14 ∷ []

-- kinds of records, of definitions, of members, and of paths
pub kinds :
    map (λ n. again kind_number (kind_with n)) numbers
    ∷ map (λ n. again definition_kind_number (definition_kind_of n)) numbers
    ∷ map (λ n. again member_kind_number (member_kind_of n)) numbers
    ∷ map (λ n. again path_kind_number (path_kind_of n)) numbers
    ∷ []
    ≡ (0 ∷ 2 ∷ 3 ∷ 4 ∷ 5 ∷ 6 ∷ 7 ∷ 8 ∷ 9 ∷ 10 ∷ 11 ∷ 12 ∷ 0 ∷ 14 ∷ 0 ∷ [])
    ∷ (0 ∷ 2 ∷ 3 ∷ 4 ∷ 5 ∷ 6 ∷ 0 ∷ 0 ∷ 0 ∷ 0 ∷ 0 ∷ 0 ∷ 0 ∷ 0 ∷ 0 ∷ [])
    ∷ (1 ∷ 2 ∷ 3 ∷ 4 ∷ 0 ∷ 0 ∷ 0 ∷ 0 ∷ 0 ∷ 0 ∷ 0 ∷ 0 ∷ 0 ∷ 0 ∷ 0 ∷ [])
    ∷ (1 ∷ 2 ∷ 3 ∷ 4 ∷ 5 ∷ 0 ∷ 0 ∷ 0 ∷ 0 ∷ 0 ∷ 0 ∷ 0 ∷ 0 ∷ 0 ∷ 0 ∷ [])
    ∷ []
unfolding again numbers
kinds = refl

pub origins : map origin_number (Ordinary ∷ Core ∷ Alloc ∷ Std ∷ OtherLanguage ∷ []) ≡ 0 ∷ 1 ∷ 2 ∷ 3 ∷ 4 ∷ []
origins = refl

pub refusals :
    map refusal_number
    (Area ∷ Fuel ∷ Field ∷ Unknown ∷ Macro ∷ Words ∷ Form ∷ Range ∷ Undefined ∷ Repeated ∷ Place ∷ Count ∷ Bytes ∷ Rest ∷ Question ∷ Edition
    ∷ Batch ∷ Target ∷ Limit ∷ Entry ∷ Room ∷ Window ∷ Waits ∷ Join ∷ [])
    ≡ 20 ∷ 21 ∷ 22 ∷ 23 ∷ 24 ∷ 30 ∷ 31 ∷ 32 ∷ 33 ∷ 34 ∷ 35 ∷ 36 ∷ 40 ∷ 41 ∷ 42 ∷ 43 ∷ 44 ∷ 45 ∷ 46 ∷ 47 ∷ 48 ∷ 49 ∷ 50 ∷ 51 ∷ []
refusals = refl

-- the kinds of visibilities, and their numbers
pub visibilities :
    map (λ k. visibility_kind (visibility_of k 7)) (0 ∷ 1 ∷ 2 ∷ 3 ∷ 4 ∷ [])
    ∷ map (λ k. visibility_number (visibility_of k 7)) (0 ∷ 1 ∷ 2 ∷ 3 ∷ 4 ∷ [])
    ∷ []
    ≡ (0 ∷ 1 ∷ 2 ∷ 3 ∷ 2 ∷ []) ∷ (0 ∷ 7 ∷ 7 ∷ 7 ∷ 7 ∷ []) ∷ []
visibilities = refl

-- four bytes in the two words after the head
pub text : text_at (9 ∷ 0x10000004 ∷ 0x636261 ∷ 0x64 ∷ 9 ∷ []) 1 ≡ 0x636261 ∷ 0x64 ∷ []
text = refl

-- a head of each kind with 1 for its payload, and the words 2, 3 ..

pub definition : definition_at (9 ∷ 0x80000001 ∷ 2 ∷ 3 ∷ []) 1 ≡ record { kind = 1; first = 2; second = 3; place = 1 }
definition = refl

pub scope :
    scope_at (9 ∷ 0x90000001 ∷ 2 ∷ 3 ∷ 4 ∷ 5 ∷ 6 ∷ 7 ∷ 8 ∷ []) 1
    ≡ record { owner = 1; ns = 2; name = 3; definition = 4; visibility = 5; number = 6; declared = 7; bits = 8; place = 1 }
scope = refl

pub member :
    member_at (9 ∷ 0xD0000001 ∷ 2 ∷ 3 ∷ 4 ∷ 5 ∷ []) 1 ≡ record { parent = 1; name = 2; definition = 3; kind = 4; bits = 5 }
member = refl
