-- What is proved of the definitions, each theorem with its whole statement; the proofs are cited. The contracts of the functions say that the code
-- computes these definitions, for every input. A definition is in the file that its `use` line names.
use Prim.Native.Nat.{ℕ, ◌+◌, ◌*◌, ◌-◌, ◌≤◌, ◌<◌}
use mathlib.Core.Path.{◌≡◌}
use mathlib.Core.List.{List, [], ◌∷◌, ◌++◌, Memᴰ}
use mathlib.Core.Bool.{true, false}
use mathlib.Core.Logic.{◌↔◌}
use lib.Dec.{eqb}
use lib.ListN.{length, get_or, take}
use Rattle.snapshot.specs.Limits.{word_limit, fuel_limit}
use Rattle.snapshot.specs.Sizes.{import_size}
use Rattle.snapshot.specs.Lists.{any}
use Rattle.snapshot.specs.Records.{Snapshot, Scope}
use Rattle.check_rules.specs.Verdict.{refuse, accept, verdict}
use Rattle.accept.specs.Valid.{Valid, Each}
use Rattle.accept.proofs.Valid as valid
use Rattle.module_tree.specs.rules.Visibility.{is_visible_from, sees}
use Rattle.module_tree.specs.Privacy.{Privacy}
use Rattle.module_tree.specs.Differs.{Exception, Known, Answers}
use Rattle.module_tree.proofs.Private as private
use Rattle.hir_def.specs.Finds.{select}
use Rattle.hir_def.specs.ImportMap.{import_info_for}
use Rattle.hir_def.specs.Items.{same_item}
use Rattle.hir_def.specs.declared.Item.{Item}
use Rattle.hir_def.proofs.Plain.{plainly}
use Rattle.find_path_spec.specs.declared.FindPathCtx.{FindPathCtx}
use Rattle.find_path_spec.specs.declared.Query.{Query}
use Rattle.find_path_spec.specs.declared.Question.{Question}
use Rattle.find_path_spec.specs.Rules.{bit}
use Rattle.find_path_spec.specs.Report.{searched_listing, refused, report_of}
use Rattle.find_path_spec.specs.laws.Fuels.{IsRefused, HasPath, Bounded, NamesKnown, Small, TellsFirst, Compared}
use Rattle.find_path_spec.specs.Report.{report_at}
use Rattle.find_path_spec.specs.laws.Limits.{with_limit, Whole}
use Rattle.find_path_spec.specs.laws.Routes.{Routed, Shown, route_steps}
use Rattle.find_path_spec.specs.laws.Reading.{with_reading, ReadAs}
use Rattle.find_path_spec.specs.laws.Visited.{OneSet, Enough}
use Rattle.find_path_spec.proofs.laws.Fuels as fuels
use Rattle.find_path_spec.proofs.laws.Limits as limits
use Rattle.find_path_spec.proofs.laws.Routes as routes
use Rattle.find_path_spec.proofs.laws.Reading as reading
use Rattle.find_path_spec.proofs.laws.Reports as reports
use Rattle.find_path_spec.proofs.laws.Known as known
use Rattle.find_path_spec.proofs.laws.Plain as plain
use Rattle.find_path_spec.proofs.laws.Visited as visited
use Rattle.reach.specs.declared.parts.Viewer.{Viewer}
use Rattle.reach.specs.parts.Reach.{reach_of, distinct, item_in, total}
use Rattle.reach.proofs.parts.Laws as laws
use Rattle.reach.proofs.parts.Distinct as apart
use Rattle.reach.proofs.parts.Distinct.{Apart}
use Rattle.reports.specs.Written.{report_words, report_numbers}
use Rattle.reports.proofs.Exact as exact
use Rattle.nameable.specs.Seen.{seen, Seen}
use Rattle.nameable.specs.Paths.{Path, names_in, Names, Nameable}
use Rattle.nameable.specs.Breadth.{found, longer, nowhere, names_limit, any_path}
use Rattle.nameable.specs.Right.{Longer, Right}
use Rattle.nameable.proofs.Opinion as opinion
use Rattle.nameable.proofs.Private as privately
use Rattle.edit_rules.specs.Edits.{edited, Operation, adding, removing, edit_of}
use Rattle.edit_rules.specs.Entries.{scopes_end}
use Rattle.edit_rules.specs.Written.{snapshot_words, words_with}
use Rattle.edit_rules.proofs.scope_edits.Written as written
use Rattle.answer.specs.Answers.{zeros}
use Rattle.edits.specs.Runs.{Held, own_words, after_run, snapshot_after, entries_after}
use Rattle.edits.proofs.Fresh as fresh
use Rattle.edits.proofs.Afresh as afresh
use Rattle.windows.specs.rules.States.{waits, asked_by, place_fault, after_place}
use Rattle.windows.specs.Windows.{turn_of}
use Rattle.windows.specs.Runs as windows
use Rattle.windows.specs.Runs.{empty_state, ServedWithin, turns}
use Rattle.windows.proofs.Served as served
use Rattle.import_rules.specs.Collect.{collected}
use Rattle.import_rules.specs.import_words.Words as lists
use Rattle.import_rules.proofs.import_words.Built as built
use Rattle.join_rules.specs.Joined.{first_numbers, second_numbers, question_to, joined_as, join_of, joined, joined_words, together, is_within}
use Rattle.join_rules.proofs.Joins as joins
use Rattle.embedding.specs.Kept.{Answered, Kept}
use Rattle.embedding.proofs.Stays as stays
use Rattle.find_path_spec.specs.Line.{bytes_of, line_of}
use Rattle.printer.specs.Printed.{printed}
use Rattle.printer.proofs.Whole as whole
use Rattle.embedding.specs.joined_lines.Inputs.{Writable, Asks, Room}
use Rattle.embedding.proofs.joined_lines.Asked as asked
use Rattle.embedding.proofs.joined_lines.Joined as printing

-- The snapshot

-- Accepted words keep what the search relies on: numbers in range, parents before their modules, nothing twice.
pub accepted_valid : (W : List ℕ) (s : Snapshot) → verdict W ≡ accept s → Valid s
accepted_valid = valid.accepted_valid

-- They are the words that their snapshot is written as, so no two words are accepted as the same one.
pub accepted_written : (W : List ℕ) (s : Snapshot) → verdict W ≡ accept s → W ≡ snapshot_words s
accepted_written = written.accepted_written

-- Visibility

-- The walk says visible wherever the Reference's privacy holds, and besides that exactly where `Differs` holds.
pub walk_is_privacy_but : (W : List ℕ) (s : Snapshot) → verdict W ≡ accept s → (k n v : ℕ) → v < length s.modules → Known s k n
    → Answers (is_visible_from s k n v) (Privacy s k n v) (Exception s k n v)
walk_is_privacy_but = private.walk_is_privacy_but

-- The same of every scope entry, whose visibility is in range.
pub entry_is_privacy_but : (W : List ℕ) (s : Snapshot) → verdict W ≡ accept s → (d : Scope) (j v : ℕ) → j < length s.scopes → v < length s.modules
    → Answers (sees s v (get_or s.scopes j d)) (Privacy s (get_or s.scopes j d).visibility (get_or s.scopes j d).number v)
    (Exception s (get_or s.scopes j d).visibility (get_or s.scopes j d).number v)
entry_is_privacy_but = private.entry_is_privacy_but

-- The compiler's test of an entry, which any path goes by, is privacy in every case: the entry's own, and that of the module's declaration.
pub seen_is : (W : List ℕ) (s : Snapshot) → verdict W ≡ accept s → (e : Scope) → Memᴰ e s.scopes → (from : ℕ) → from < length s.modules
    → (seen s from e ≡ true) ↔ Seen s from e
seen_is = privately.seen_is

-- Fuel

-- Two fuels, neither refused: the reports are equal in every field exactly where the search without a tank makes at most as many charges as
-- the smaller fuel; each counts the smaller of its fuel and that count, says empty exactly where its fuel is less, and otherwise has that
-- search's path or none.
pub fuels_compared : (words : List ℕ) (area : ℕ) (q : Query) (F G : ℕ) → F < G → G ≤ fuel_limit
    → (IsRefused (report_at words area q F) → ⊥) → (IsRefused (report_at words area q G) → ⊥)
    → Compared words area q F G
fuels_compared = fuels.fuels_compared

-- A report that says empty tells of the charge of the search without a tank whose number, from 0, is its fuel.
pub report_first : (words : List ℕ) (area : ℕ) (q : Question) (s : Snapshot) → verdict words ≡ accept s
    → TellsFirst q.fuel (searched_listing s q.query) (report_of words area q)
report_first = reports.report_first

-- Limits

-- What is found under the smaller of two limits is found under the larger, where no tank was found empty.
pub limits_compared : (words : List ℕ) (area : ℕ) (q : Query) (l m F G : ℕ) → l ≤ m
    → Whole (report_at words area (with_limit q l) F) → Whole (report_at words area (with_limit q m) G)
    → HasPath (report_at words area (with_limit q l) F) → HasPath (report_at words area (with_limit q m) G)
limits_compared = limits.limits_compared

-- Reports

-- at most sixteen names, zeros past them, no more charges than fuel
pub report_bounded : (words : List ℕ) (area : ℕ) (q : Question) → Bounded q.fuel (report_of words area q)
report_bounded = reports.report_bounded

pub report_small : (words : List ℕ) (area : ℕ) (q : Question) → Small (report_of words area q)
report_small = reports.report_small

-- a refusal has its number, and zeros
pub refusal_zero : (words : List ℕ) (area : ℕ) (q : Question) → IsRefused (report_of words area q)
    → report_of words area q ≡ refused (report_of words area q).number
refusal_zero = reports.refusal_zero

-- its names are names of the snapshot
pub report_known : (words : List ℕ) (area : ℕ) (q : Question) (s : Snapshot) → verdict words ≡ accept s → NamesKnown s (report_of words area q)
report_known = known.report_known

-- written as words it loses nothing
pub report_exact : (words : List ℕ) (area : ℕ) (q : Question) → report_words (report_of words area q) ≡ report_numbers (report_of words area q)
report_exact = exact.report_exact

-- Routes

-- Every step of a path that is found has its record, and each record leads on from the place reached so far, the last to the item.
pub found_route : (words : List ℕ) (area : ℕ) (q : Question) (s : Snapshot) → verdict words ≡ accept s
    → HasPath (report_of words area q) → Routed s q.query (report_of words area q)
found_route = routes.found_route

-- At the place of every step the words have the head of a record of its rule's kind; a keyword has place 0.
pub found_shown : (words : List ℕ) (area : ℕ) (q : Question) (s : Snapshot) → verdict words ≡ accept s
    → HasPath (report_of words area q) → Each (Shown words) (route_steps (report_of words area q))
found_shown = routes.found_shown

-- Paths that read back

-- With options bit 64 a path is found exactly where it is found without it and means the item, and misleads exactly where it is found and does not.
pub read_back : (words : List ℕ) (area : ℕ) (q : Query) (fuel : ℕ) (s : Snapshot) → verdict words ≡ accept s → q.options < 64
    → ReadAs s q (report_at words area q fuel) (report_at words area (with_reading q) fuel)
read_back = reading.read_back

pub read_refused : (words : List ℕ) (area : ℕ) (q : Query) (fuel n place : ℕ) → verdict words ≡ refuse n place → q.options < 64
    → report_at words area (with_reading q) fuel ≡ report_at words area q fuel
read_refused = reading.read_refused

-- Old names last

-- Without options bit 32 the report on words with 2 and 3 in declared fields is that on words with 0 and 1 there.
pub report_plain : (words words' : List ℕ) (area : ℕ) (q : Question) (s : Snapshot) → verdict words ≡ accept s → verdict words' ≡ accept (plainly s)
    → bit q.query.options 32 ≡ false → report_of words' area q ≡ report_of words area q
report_plain = plain.report_plain

-- The visited set

-- The Rust's one changing set of visited pairs gives the answers of the pairs that are passed down, and is given back as it was met.
pub one_set : (s : Snapshot) (x : FindPathCtx) (turns : ℕ) → Enough s x turns → OneSet s x turns
one_set = visited.one_set

-- Any path

-- A path that is given names the item and none is shorter; where there is none, or each is too long, that is so.
pub answer_right : (W : List ℕ) (s : Snapshot) → verdict W ≡ accept s → (from : ℕ) → from < length s.modules → (item : Item)
    → Right s from item (any_path s from item)
answer_right = opinion.answer_right

-- `nowhere` exactly where no path of any length names the item
pub nowhere_is : (W : List ℕ) (s : Snapshot) → verdict W ≡ accept s → (from : ℕ) → from < length s.modules → (item : Item)
    → (any_path s from item ≡ nowhere) ↔ (Nameable s from item → ⊥)
nowhere_is = opinion.nowhere_is

pub longer_is : (W : List ℕ) (s : Snapshot) → verdict W ≡ accept s → (from : ℕ) → from < length s.modules → (item : Item)
    → (any_path s from item ≡ longer) ↔ Longer s from item
longer_is = opinion.longer_is

pub found_where : (W : List ℕ) (s : Snapshot) → verdict W ≡ accept s → (from : ℕ) → from < length s.modules → (item : Item)
    → (q : Path) → Names s from item q → names_in q ≤ names_limit → (p : Path) × (any_path s from item ≡ found p)
found_where = opinion.found_where

-- The reach of a module

-- The counts together are the number of distinct items among the scope records; no two are the same, and each record's is one of them.
pub reach_total : (words : List ℕ) (s : Snapshot) → verdict words ≡ accept s → (v : Viewer) (area : ℕ)
    → (reach_of words area v).number ≡ 0 → total (reach_of words area v).counts ≡ length (distinct s)
reach_total = laws.reach_total

pub distinct_apart : (s : Snapshot) → Apart s (distinct s)
distinct_apart = apart.distinct_apart

pub distinct_all : (s : Snapshot) → Each (λ d. any (λ x. same_item (item_in s x) (item_in s d)) (distinct s) ≡ true) s.scopes
distinct_all = apart.distinct_all

-- Scope entries that come and go

-- After any run of edits the words are those of the snapshot written afresh, with the entries that are left in their order; and so are the reports.
pub run_written : (area : ℕ) (os : List Operation) (h : Held) (s : Snapshot) → verdict (own_words h) ≡ accept s
    → own_words (after_run area h os) ≡ words_with s (entries_after area h s.scopes os)
run_written = afresh.run_written

pub run_afresh : (area : ℕ) (os : List Operation) (h : Held) (s : Snapshot) → verdict (own_words h) ≡ accept s → (room : ℕ) (q : Question)
    → report_of (own_words (after_run area h os)) room q ≡ report_of (words_with s (entries_after area h s.scopes os)) room q
run_afresh = afresh.run_afresh

-- They are accepted as the edited snapshot.
pub run_snapshot : (area : ℕ) (os : List Operation) (h : Held) (s : Snapshot) → verdict (own_words h) ≡ accept s
    → verdict (own_words (after_run area h os)) ≡ accept (snapshot_after area h s os)
run_snapshot = fresh.run_snapshot

-- An accepted addition, removed at once, restores the words.
pub restored : (area : ℕ) (W : List ℕ) (n : ℕ) (x : Scope) (T : List ℕ) → edit_of area W n (adding x) ≡ edited T
    → after_run area (record { words = W; count = n }) (adding x ∷ removing x.owner x.ns x.name ∷ [])
    ≡ record { words = take n W ++ zeros (length W - n); count = n }
restored = fresh.restored

-- Eight windows

-- A question that is placed is served by one of the eight turns that follow, whatever is placed between them.
pub placed_within_eight : (before os : List windows.Operation) (w : ℕ) (q : Question)
    → place_fault (windows.after_run empty_state before) w ≡ 0 → 8 ≤ turns os
    → ServedWithin 8 (after_place (windows.after_run empty_state before) w q) w q os
placed_within_eight = served.placed_within_eight

pub served_within_eight : (S : List ℕ) (w : ℕ) (os : List windows.Operation) → length S ≡ 65 → w < 8 → waits S w ≡ true → 8 ≤ turns os
    → ServedWithin 8 S w (asked_by S w) os
served_within_eight = served.served_within_eight

-- A turn is idle exactly where none waits.
pub idle_exactly : (S W : List ℕ) (area : ℕ) → ((turn_of S W area).idle ≡ true) ↔ ((w : ℕ) → w < 8 → waits S w ≡ false)
idle_exactly = served.idle_exactly

-- Import lists

-- The list that is built for a crate, put in place of its import records, is accepted where there is room for it.
pub built_accepted : (W : List ℕ) (s : Snapshot) (c : ℕ) → verdict W ≡ accept s → c < length s.crates
    → length (lists.words_with W s (lists.replaced s c (collected s c))) ≤ word_limit
    → verdict (lists.words_with W s (lists.replaced s c (collected s c))) ≡ accept (lists.snapshot_with W s (lists.replaced s c (collected s c)))
built_accepted = built.built_accepted

-- The crate's imports of an item are then those of the list, in its order, and no others; another crate's are what they were, but for places.
pub built_infos : (W : List ℕ) (s : Snapshot) (c : ℕ) (item : Item)
    → import_info_for (lists.snapshot_with W s (lists.replaced s c (collected s c))) c item
    ≡ select (lists.is_of s item) (lists.placed_from (scopes_end W + import_size * length (lists.others_than c s.imports)) (collected s c))
built_infos = built.built_infos

pub built_others : (W : List ℕ) (s : Snapshot) (c : ℕ) (item : Item) (d : ℕ) → eqb d c ≡ false
    → lists.unplaced (import_info_for (lists.snapshot_with W s (lists.replaced s c (collected s c))) d item)
    ≡ lists.unplaced (import_info_for s d item)
built_others = built.built_others

-- Two snapshots joined

-- The words of two accepted snapshots joined are accepted, as the joined snapshot, where no limit is passed.
pub joined_accepted : (W X : List ℕ) (s t : Snapshot) → verdict W ≡ accept s → verdict X ≡ accept t → is_within (together s t) ≡ true
    → verdict (joined_words s t) ≡ accept (joined s t)
joined_accepted = joins.joined_accepted

-- Whenever a call is not refused, every question of either part that 23 does not refuse has, put with its numbers moved on the joined words, the line
-- that it has on its part, byte for byte; the joined words are accepted as the joined snapshot.
pub lines_kept : (area room : ℕ) (W X Y : List ℕ) → join_of area W X room ≡ joined_as Y → Kept W X Y
lines_kept = stays.lines_kept

-- So has the printer: a part's question, put behind the joined words with its numbers moved, prints what it prints behind its part, where the joined
-- words and the seven of a question are at most 16,384.
pub first_printed : (area room : ℕ) (W X Y : List ℕ) (e : join_of area W X room ≡ joined_as Y) (q : Question) (B C : List ℕ) → Room Y
    → Answered W q → Writable q → Asks B W q → Asks C Y (question_to first_numbers q) → printed C ≡ printed B
first_printed = printing.first_printed

pub second_printed : (area room : ℕ) (W X Y : List ℕ) (e : join_of area W X room ≡ joined_as Y) (q : Question) (B C : List ℕ) (fits : Room Y)
    → Answered X q → Writable q
    → Writable (question_to (second_numbers (stays.lines_kept area room W X Y e).first (stays.lines_kept area room W X Y e).second) q) → Asks B X q
    → Asks C Y (question_to (second_numbers (stays.lines_kept area room W X Y e).first (stays.lines_kept area room W X Y e).second) q)
    → printed C ≡ printed B
second_printed = printing.second_printed

-- The printer

-- The input of accepted words and one question has one line.
pub asked_printed : (W : List ℕ) (s : Snapshot) → verdict W ≡ accept s → (q : Question) → Writable q → (B : List ℕ) → Asks B W q → Room W
    → printed B ≡ line_of W q ∷ []
asked_printed = asked.asked_printed

-- The worked input, byte for byte, has one line.
pub listing_printed : printed whole.listing ≡ bytes_of "found a::f 1 0" ∷ []
listing_printed = whole.listing_printed
