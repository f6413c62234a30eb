-- The numbers by which a call, a snapshot, a question or an edit is refused.
use Rattle.std.specs.Prelude.{ℕ, Result, Ok, Err}
use Rattle.snapshot.specs.declared.refusal.Refusal.{Refusal}
use Rattle.snapshot.specs.declared.refusal.Refusal.TheVariants.{Area, Fuel, Field, Unknown, Macro, Words, Form, Range, Undefined, Repeated, Place}
use Rattle.snapshot.specs.declared.refusal.Refusal.TheVariants.{Count, Bytes, Rest, Question, Edition, Batch, Target, Limit, Entry, Room, Window}
use Rattle.snapshot.specs.declared.refusal.Refusal.TheVariants.{Waits, Join}

-- a work area with too few words
abbrev pub area_refusal : ℕ
area_refusal = 20

-- too much fuel
abbrev pub fuel_refusal : ℕ
fuel_refusal = 21

-- a namespace, a prefix or options out of range
abbrev pub field_refusal : ℕ
field_refusal = 22

-- no such definition or module
abbrev pub unknown_refusal : ℕ
unknown_refusal = 23

-- the macros namespace, with a definition that is no macro
abbrev pub macro_refusal : ℕ
macro_refusal = 24

-- too many words
abbrev pub words_refusal : ℕ
words_refusal = 30

-- a kind that is unknown or lower than the one before; an argument that is missing or has a kind
abbrev pub form_refusal : ℕ
form_refusal = 31

-- a field of a record out of range
abbrev pub range_refusal : ℕ
range_refusal = 32

-- the number of a thing that is not defined yet
abbrev pub undefined_refusal : ℕ
undefined_refusal = 33

-- what may stand once stands again
abbrev pub repeated_refusal : ℕ
repeated_refusal = 34

-- a record that does not fit those before it; a map or a crate left incomplete
abbrev pub place_refusal : ℕ
place_refusal = 35

-- too many records of a kind
abbrev pub count_refusal : ℕ
count_refusal = 36

-- too many bytes
abbrev pub bytes_refusal : ℕ
bytes_refusal = 40

-- bytes that are not whole words
abbrev pub rest_refusal : ℕ
rest_refusal = 41

-- a word outside a whole question
abbrev pub question_refusal : ℕ
question_refusal = 42

-- an unknown edition
abbrev pub edition_refusal : ℕ
edition_refusal = 43

-- too many questions, a part of one, or too few words for their reports
abbrev pub batch_refusal : ℕ
batch_refusal = 44

-- a target with too few words for an import list
abbrev pub target_refusal : ℕ
target_refusal = 45

-- a limit out of range
abbrev pub limit_refusal : ℕ
limit_refusal = 46

-- an added entry that is there already, or a removed one that isn't
abbrev pub entry_refusal : ℕ
entry_refusal = 47

-- no room for an added entry
abbrev pub room_refusal : ℕ
room_refusal = 48

-- no such window
abbrev pub window_refusal : ℕ
window_refusal = 49

-- a window whose question waits already
abbrev pub waits_refusal : ℕ
waits_refusal = 50

-- two snapshots that joined pass a limit or the target
abbrev pub join_refusal : ℕ
join_refusal = 51

-- no report has a larger one
abbrev pub largest_refusal : ℕ
largest_refusal = limit_refusal

-- a refusal's number
abbrev pub refusal_number : Refusal → ℕ
refusal_number Area = area_refusal
refusal_number Fuel = fuel_refusal
refusal_number Field = field_refusal
refusal_number Unknown = unknown_refusal
refusal_number Macro = macro_refusal
refusal_number Words = words_refusal
refusal_number Form = form_refusal
refusal_number Range = range_refusal
refusal_number Undefined = undefined_refusal
refusal_number Repeated = repeated_refusal
refusal_number Place = place_refusal
refusal_number Count = count_refusal
refusal_number Bytes = bytes_refusal
refusal_number Rest = rest_refusal
refusal_number Question = question_refusal
refusal_number Edition = edition_refusal
refusal_number Batch = batch_refusal
refusal_number Target = target_refusal
refusal_number Limit = limit_refusal
refusal_number Entry = entry_refusal
refusal_number Room = room_refusal
refusal_number Window = window_refusal
refusal_number Waits = waits_refusal
refusal_number Join = join_refusal

-- the number of an answer's refusal, or 0
abbrev pub fault_number : {A : Type 0} → Result A Refusal → ℕ
fault_number (Ok x) = 0
fault_number (Err r) = refusal_number r
