-- Rows that are computed: the answer's definition on the workspace of nameable/proofs/Worked.antt.
use Prim.Native.Nat.{ℕ}
use mathlib.Core.Path.{◌≡◌, refl}
use mathlib.Core.List.{List, [], ◌∷◌}
use Rattle.nameable.specs.Paths.{names_of, place_in, route_of}
use Rattle.nameable.specs.Breadth.{any_path}
use Rattle.nameable.proofs.Worked.{paths_on_literals, head, letter, entry, workspace, over, nested}
use Rattle.find_path_spec.specs.Report.{call_fault, question_fault}
use Rattle.told_paths.specs.Tells.{keyword_kind, kind_of, keyword_supers, supers_of, padded as filled}
use Rattle.answer.specs.declared.any_answer.AnyReport.{AnyReport}
use Rattle.answer.specs.any_answer.Any.{any_without, any_refused, any_reported, any_query, any_unless, any_by, any_after, any_report}

-- with a work area that serves: namespace, definition and module
pub asked : List ℕ → ℕ → ℕ → ℕ → AnyReport
asked words ns d m = any_report words 16384 (any_query ns d m)

-- a path: its kind, its `super`s, how many names, these filled up, and the places of their records
pub found : ℕ → ℕ → ℕ → List ℕ → List ℕ → AnyReport
found k u n names route = record { outcome = 0; number = 0; kind = k; supers = u; names = names; count = n; route = route }

pub any_reports :
    -- S in `v`, the f of h in `p`, the f of q in `t`
    asked (workspace 2021) 0 4 4 ∷ asked (workspace 2021) 1 6 1 ∷ asked (workspace 2021) 1 10 10
    -- the variant V in `v`
    ∷ asked (workspace 2021) 1 13 4
    -- the constructor of S in `a`, which imports it and may not
    ∷ asked (workspace 2021) 1 4 3
    -- no such namespace, definition, macro
    ∷ asked (workspace 2021) 3 4 4 ∷ asked (workspace 2021) 0 99 4 ∷ asked (workspace 2021) 2 4 4
    -- a work area that is too small
    ∷ any_report (workspace 2021) 16383 (any_query 0 4 4)
    ∷ []
    ≡ found 3 0 3 (0 ∷ 3 ∷ 5 ∷ 0 ∷ 0 ∷ 0 ∷ 0 ∷ 0 ∷ 0 ∷ 0 ∷ 0 ∷ 0 ∷ 0 ∷ 0 ∷ 0 ∷ 0 ∷ [])
    (110 ∷ 134 ∷ 190 ∷ 0 ∷ 0 ∷ 0 ∷ 0 ∷ 0 ∷ 0 ∷ 0 ∷ 0 ∷ 0 ∷ 0 ∷ 0 ∷ 0 ∷ 0 ∷ [])
    ∷ found 4 0 3 (7 ∷ 8 ∷ 9 ∷ 0 ∷ 0 ∷ 0 ∷ 0 ∷ 0 ∷ 0 ∷ 0 ∷ 0 ∷ 0 ∷ 0 ∷ 0 ∷ 0 ∷ 0 ∷ [])
    (270 ∷ 214 ∷ 222 ∷ 0 ∷ 0 ∷ 0 ∷ 0 ∷ 0 ∷ 0 ∷ 0 ∷ 0 ∷ 0 ∷ 0 ∷ 0 ∷ 0 ∷ 0 ∷ [])
    ∷ found 2 2 1 (9 ∷ 0 ∷ 0 ∷ 0 ∷ 0 ∷ 0 ∷ 0 ∷ 0 ∷ 0 ∷ 0 ∷ 0 ∷ 0 ∷ 0 ∷ 0 ∷ 0 ∷ 0 ∷ [])
    (254 ∷ 0 ∷ 0 ∷ 0 ∷ 0 ∷ 0 ∷ 0 ∷ 0 ∷ 0 ∷ 0 ∷ 0 ∷ 0 ∷ 0 ∷ 0 ∷ 0 ∷ 0 ∷ [])
    ∷ found 3 0 4 (0 ∷ 3 ∷ 13 ∷ 14 ∷ 0 ∷ 0 ∷ 0 ∷ 0 ∷ 0 ∷ 0 ∷ 0 ∷ 0 ∷ 0 ∷ 0 ∷ 0 ∷ 0 ∷ [])
    (110 ∷ 134 ∷ 198 ∷ 107 ∷ 0 ∷ 0 ∷ 0 ∷ 0 ∷ 0 ∷ 0 ∷ 0 ∷ 0 ∷ 0 ∷ 0 ∷ 0 ∷ 0 ∷ [])
    ∷ any_without 1 0
    ∷ any_without 2 22 ∷ any_without 2 23 ∷ any_without 2 24
    ∷ any_without 2 20
    ∷ []
unfolding asked found any_report any_after any_by any_unless any_reported any_refused any_without any_path call_fault question_fault kind_of
    keyword_kind supers_of keyword_supers filled names_of route_of place_in head letter entry workspace paths_on_literals
any_reports = refl

-- The function in the last of seventeen nested modules, from the first: every path has more than sixteen names.
pub any_longer : asked nested 1 16 0 ≡ any_without 3 0
unfolding asked found any_report any_after any_by any_unless any_reported any_refused any_without any_path call_fault question_fault kind_of
    keyword_kind supers_of keyword_supers filled names_of head letter entry over nested paths_on_literals
any_longer = refl
