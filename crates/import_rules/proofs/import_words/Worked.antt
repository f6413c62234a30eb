-- Built lists put into small snapshots, computed.
use Prim.Native.Nat.{ℕ}
use mathlib.Core.Path.{◌≡◌, refl}
use mathlib.Core.List.{List, [], ◌∷◌, ◌++◌}
use mathlib.Core.Bool.{true, ◌&&◌}
use Rattle.snapshot.specs.Lists.{eq_list}
use Rattle.check_rules.specs.Verdict.{Verdict, refuse, accept, verdict}
use Rattle.check_rules.specs.Worked.{worked}
use Rattle.edit_rules.specs.Entries.{first_from, scopes_end}
use Rattle.import_rules.specs.Collect.{collected, words_of}
use Rattle.find_path_spec.proofs.Worked.{head, named}
use Rattle.import_rules.proofs.Worked.{collected_on_literals, with_members}
use Rattle.import_rules.specs.import_words.Words.{others_than, replaced, words_with}

pub put_by : List ℕ → ℕ → Verdict → List ℕ
put_by W c (refuse n at) = []
put_by W c (accept s) = words_with W s (replaced s c (collected s c))

-- the words with the list of a crate put in
pub put : ℕ → List ℕ → List ℕ
put c W = put_by W c (verdict W)

-- the words of the imports that are accepted
pub imports_by : Verdict → List ℕ
imports_by (refuse n at) = []
imports_by (accept s) = words_of s.imports

-- the worked snapshot has no other records behind its scopes
pub worked_put : eq_list (put 0 worked) (worked ++ (0xA0000000 ∷ 0 ∷ 0 ∷ 0 ∷ 0 ∷ 0 ∷ 0xA0000000 ∷ 1 ∷ 1 ∷ 1 ∷ 1 ∷ 0 ∷ []))
    && eq_list (imports_by (verdict (put 0 worked))) (0xA0000000 ∷ 0 ∷ 0 ∷ 0 ∷ 0 ∷ 0 ∷ 0xA0000000 ∷ 1 ∷ 1 ∷ 1 ∷ 1 ∷ 0 ∷ []) ≡ true
unfolding put put_by imports_by words_with others_than scopes_end first_from collected_on_literals
worked_put = refl

abbrev first : List ℕ
first =
    0xA0000000 ∷ 0 ∷ 1 ∷ 1 ∷ 0 ∷ 0 ∷ 0xA0000000 ∷ 0 ∷ 0 ∷ 0 ∷ 0 ∷ 0 ∷ 0xA0000000 ∷ 0 ∷ 5 ∷ 4 ∷ 0 ∷ 2 ∷ 0xA0000000 ∷ 0 ∷ 6 ∷ 5 ∷ 0 ∷ 0
    ∷ 0xA0000000 ∷ 0 ∷ 4 ∷ 2 ∷ 0 ∷ 1 ∷ 0xA0000000 ∷ 1 ∷ 5 ∷ 4 ∷ 0 ∷ 2 ∷ 0xA0000000 ∷ 1 ∷ 6 ∷ 5 ∷ 0 ∷ 0 ∷ 0xA0000000 ∷ 1 ∷ 4 ∷ 2 ∷ 0 ∷ 2
    ∷ 0xA0000000 ∷ 2 ∷ 8 ∷ 2 ∷ 0 ∷ 0 ∷ 0xA0000000 ∷ 0 ∷ 1 ∷ 1 ∷ 1 ∷ 0 ∷ 0xA0000000 ∷ 0 ∷ 9 ∷ 0 ∷ 1 ∷ 0 ∷ 0xA0000000 ∷ 0 ∷ 3 ∷ 3 ∷ 1 ∷ 1
    ∷ 0xA0000000 ∷ 0 ∷ 2 ∷ 2 ∷ 1 ∷ 0 ∷ 0xA0000000 ∷ 0 ∷ 3 ∷ 3 ∷ 1 ∷ 1 ∷ 0xA0000000 ∷ 1 ∷ 2 ∷ 2 ∷ 1 ∷ 0
    ∷ 0xA0000000 ∷ 2 ∷ 8 ∷ 5 ∷ 3 ∷ 3 ∷ 0xA0000000 ∷ 0 ∷ 0 ∷ 0 ∷ 2 ∷ 0 ∷ []

abbrev second : List ℕ
second = 0xA0000001 ∷ 2 ∷ 8 ∷ 5 ∷ 3 ∷ 3 ∷ []

-- Before members, for both crates and then for the first again: its records are replaced, and stand behind the other's.
pub members_put : eq_list (imports_by (verdict (put 1 (put 0 with_members)))) (first ++ second)
    && eq_list (imports_by (verdict (put 0 (put 1 (put 0 with_members))))) (second ++ first) ≡ true
unfolding put put_by imports_by head named with_members words_with others_than scopes_end first_from collected_on_literals
members_put = refl
