-- How much of a workspace can be named from one module: a search for each distinct item among the scope records, and what they found.
use Rattle.std.specs.Prelude.{ℕ, zero, suc, ◌+◌, List, [], ◌∷◌, ◌++◌, map, Bool, true, false, eqb, ltb, length, take, get_or, replicate, set}
use Rattle.std.specs.Prelude.{Result, Ok, Err}
use Rattle.snapshot.specs.Lists.{any}
use Rattle.snapshot.specs.Refusals.{unknown_refusal, refusal_number}
use Rattle.snapshot.specs.declared.refusal.Refusal.{Refusal}
use Rattle.snapshot.specs.Records.{Snapshot, Scope}
use Rattle.check_rules.specs.Verdict.{Verdict, refuse, accept, verdict, empty}
use Rattle.hir_def.specs.Items.{item_of, same_item}
use Rattle.hir_def.specs.declared.Item.{Item}
use Rattle.find_path_spec.specs.declared.Query.{Query}
use Rattle.find_path_spec.specs.declared.Report.{Report}
use Rattle.find_path_spec.specs.Report.{call_fault, refused, reported, searched}
use Rattle.find_path_spec.specs.Line.{bytes_of, decimal, joined, line_in}
use Rattle.reach.specs.declared.parts.Viewer.{Viewer}
use Rattle.reach.specs.declared.parts.Reach.{Reach as ReachCounts}

-- what is told of a reach: the number by which it is refused, 0 for none, and its counts
pub record Reach : Type 0 where
  pub number : ℕ
  pub counts : List ℕ

-- the item of a scope record
abbrev pub item_in : Snapshot → Scope → Item
item_in s e = item_of s e.ns e.definition

-- an earlier record is for the same item
unfoldable pub is_met : Snapshot → List Scope → Scope → Bool
is_met s before e = any (λ d. same_item (item_in s d) (item_in s e)) before

-- of the records, with others before them: those whose item none before has
unfoldable pub new_from : Snapshot → List Scope → List Scope → List Scope
new_from s before [] = []
new_from s before (e ∷ es) =
    elim (is_met s before e) [ true ↦ new_from s (before ++ (e ∷ [])) es | false ↦ e ∷ new_from s (before ++ (e ∷ [])) es ]

-- one record for each distinct item among the scope records
unfoldable pub distinct : Snapshot → List Scope
distinct s = new_from s [] s.scopes

-- the question for the item of a record
abbrev pub query_for : Viewer → ℕ → ℕ → Query
query_for v ns d = record { ns = ns; definition = record { 0 = d }; from = v.from; prefix = v.prefix; options = v.options; limit = v.limit }

-- the search for it, with all of the fuel, and its path read where the options ask for it
unfoldable pub report_for : Snapshot → Viewer → Scope → Report
report_for s v e = let q = query_for v e.ns e.definition in reported s q (searched s q v.fuel)

-- where a report counts: 0 to 16 found, by its names; 17 misleads; 18 none with a full enough tank, 19 with an empty one
unfoldable pub column : Report → ℕ
column r =
    elim (eqb r.outcome 0) [ true ↦ r.count | false ↦ elim (eqb r.outcome 1) [ true ↦ 18 + r.empty | false ↦ 17 ] ]

-- the names of a path that is found
unfoldable pub names_found : Report → ℕ
names_found r = elim (eqb r.outcome 0) [ true ↦ r.count | false ↦ 0 ]

unfoldable pub added : List ℕ → ℕ → ℕ → List ℕ
added t i n = set t i (get_or t i 0 + n)

-- one more in the column of the report, and its names in the last
unfoldable pub tallied : List ℕ → Report → List ℕ
tallied t r = added (added t (column r) 1) 20 (names_found r)

unfoldable pub tallied_reach : Reach → Report → Reach
tallied_reach t r = record { number = t.number; counts = tallied t.counts r }

unfoldable pub tally_all : List ℕ → List Report → List ℕ
tally_all t [] = t
tally_all t (r ∷ rs) = tally_all (tallied t r) rs

-- the counts of the reports for all distinct items
unfoldable pub reach_in : Snapshot → Viewer → List ℕ
reach_in s v = tally_all (replicate 21 0) (map (report_for s v) (distinct s))

-- the counts together, without the names
unfoldable pub sum : List ℕ → ℕ
sum [] = 0
sum (n ∷ ns) = n + sum ns

abbrev pub total : List ℕ → ℕ
total t = sum (take 20 t)

-- a refusal: all counts are zero
unfoldable pub refused_reach : ℕ → Reach
refused_reach n = record { number = n; counts = replicate 21 0 }

-- what is told of the counts, or of a refusal
abbrev pub told : Result ReachCounts Refusal → Reach
told (Ok r) = record { number = 0; counts = r.counts }
told (Err k) = refused_reach (refusal_number k)

-- 23 no such module
unfoldable pub reach_by : Viewer → Verdict → Reach
reach_by v (refuse n place) = refused_reach n
reach_by v (accept s) =
    elim (ltb v.from.0 (length s.modules)) [ true ↦ record { number = 0; counts = reach_in s v } | false ↦ refused_reach unknown_refusal ]

unfoldable pub reach_unless : List ℕ → Viewer → ℕ → Reach
reach_unless words v zero = reach_by v (verdict words)
reach_unless words v (suc n) = refused_reach (suc n)

-- The reach on the words of a snapshot, with a work area of so many words. The refusals are a question's, in its order.
unfoldable pub reach_of : List ℕ → ℕ → Viewer → Reach
reach_of words area v = reach_unless words v (call_fault area (query_for v 0 0) v.fuel)

-- the printed line: the numbers, or the refusal
unfoldable pub reach_line : Reach → List ℕ
reach_line r =
    elim (eqb r.number 0) [ true ↦ joined (bytes_of " ") (map decimal r.counts) | false ↦ line_in empty 0 (refused r.number) ]
