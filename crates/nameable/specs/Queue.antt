-- The modules reached, taken up one after the other in the order in which they were reached: how a program goes over them.
use Rattle.std.specs.Prelude.{ℕ, zero, suc, ◌+◌, List, [], map, Bool, true, false, ◌&&◌, ltb, length, get_or}
use Rattle.std.specs.Prelude.{Option}
use Rattle.snapshot.specs.Records.{Snapshot, Scope}
use Rattle.hir_def.specs.Finds.{first_of}
use Rattle.hir_def.specs.Items.{types}
use Rattle.hir_def.specs.ItemScope.{is_named}
use Rattle.nameable.specs.Seen.{seen}
use Rattle.nameable.specs.Paths.{crate, Path, keyword, into, entries_in}
use Rattle.nameable.specs.Breadth.{Way, added, nameless, single, onward}

-- what stands for a way that is not there
abbrev pub no_way : Way
no_way = record { path = keyword crate; target = 0 }

-- one name more after a way
abbrev pub paths_after : Snapshot → ℕ → ℕ → Way → List Path
paths_after s from ns w = map (λ x. into w.path x.name) (entries_in s from ns w.target)

-- the ways from number i on taken up, those that come in too
unfoldable pub queue : Snapshot → ℕ → ℕ → List Way → ℕ → List Way
queue s from zero ws i = ws
queue s from (suc f) ws i =
    elim (ltb i (length ws)) [ true ↦ queue s from f (added s from ws (paths_after s from types (get_or ws i no_way))) (i + 1) | false ↦ ws ]

-- those without names, taken up; then those of one name that begin with none of them; then all the others
unfoldable pub begun : Bool → Snapshot → ℕ → List Way
begun b s from = added s from [] (nameless b s)

unfoldable pub run : Bool → Snapshot → ℕ → List Way
run b s from =
    queue s from (length s.modules)
    (added s from (added s from (begun b s from) (onward s from types (begun b s from))) (single b s from types))
    (length (begun b s from))

-- the seen entry of a module with a namespace and a name
unfoldable pub seen_named : Snapshot → ℕ → ℕ → ℕ → ℕ → Option Scope
seen_named s from ns m n = first_of (λ e. is_named m ns n e && seen s from e) s.scopes

-- how many numbers below n pass the test
unfoldable pub passing : (ℕ → Bool) → ℕ → ℕ
passing p zero = 0
passing p (suc n) = elim (p n) [ true ↦ suc (passing p n) | false ↦ passing p n ]
