-- Edits of the worked snapshot, of one without scope records, and refused ones.
use Prim.Native.Nat.{ℕ}
use mathlib.Core.Path.{◌≡◌, refl}
use mathlib.Core.Bool.{Bool, true, ◌&&◌}
use mathlib.Core.List.{List, [], ◌∷◌, ◌++◌}
use lib.Dec.{eqb}
use lib.ListN.{length, take, drop, replicate}
use Rattle.snapshot.specs.Lists.{all, eq_list}
use Rattle.check_rules.specs.Worked.{worked}
use Rattle.answer.specs.Answers.{zeros}
use Rattle.edit_rules.specs.Entries.{entry_of}
use Rattle.edit_rules.specs.Edits.{Operation, adding, removing, edit_of}
use Rattle.edit_rules.proofs.Worked.{edit_on_literals}
use Rattle.edits.specs.Edits.{number_in, count_after, words_after}

-- the slice and the words of its snapshot before the edit; the number, the count and the slice after it
pub record Row : Type 0 where
  pub area : ℕ
  pub words : List ℕ
  pub count : ℕ
  pub edit : Operation
  pub number : ℕ
  pub left : ℕ
  pub after : List ℕ

pub passes_all : List Row → Bool
unfolding number_in count_after words_after zeros edit_on_literals
passes_all table =
    all (λ r. eqb (number_in (edit_of r.area r.words r.count r.edit)) r.number
    && eqb (count_after r.count (edit_of r.area r.words r.count r.edit)) r.left
    && eq_list (words_after r.words (edit_of r.area r.words r.count r.edit)) r.after) table

-- the words of the worked snapshot up to its scopes, its two scope records, and an import, an extern and a member record
abbrev front : List ℕ
front = take 21 worked

abbrev scopes : List ℕ
scopes = drop 21 worked

abbrev later : List ℕ
later = 0xA0000000 ∷ 1 ∷ 1 ∷ 1 ∷ 1 ∷ 0 ∷ 0xB0000000 ∷ 0 ∷ 1 ∷ 0xD0000001 ∷ 0 ∷ 1 ∷ 1 ∷ 0 ∷ []

-- instead of the scopes a macro, named `a` in the root
abbrev with_macro : List ℕ
with_macro = front ++ (0x80000005 ∷ 0 ∷ 0 ∷ 0x90000000 ∷ 2 ∷ 0 ∷ 2 ∷ 0 ∷ 0 ∷ 1 ∷ 0 ∷ [])

-- the function `f` in the root, and its record
abbrev entry : List ℕ
entry = 0 ∷ 1 ∷ 1 ∷ 1 ∷ 3 ∷ 0 ∷ 2 ∷ 1 ∷ []

abbrev record_of : List ℕ
record_of = 0x90000000 ∷ 1 ∷ 1 ∷ 1 ∷ 3 ∷ 0 ∷ 2 ∷ 1 ∷ []

abbrev done : List ℕ → ℕ → Operation → List ℕ → ℕ → Row
done W n o S z = record { area = 16384; words = W; count = n; edit = o; number = 0; left = length S; after = S ++ replicate z 0 }

abbrev not_done : ℕ → List ℕ → ℕ → Operation → ℕ → Row
not_done a W n o r = record { area = a; words = W; count = n; edit = o; number = r; left = n; after = W }

abbrev put : ℕ → ℕ → ℕ → ℕ → ℕ → ℕ → ℕ → Operation
put m ns name d v n k = adding (record {
  owner = m;
  ns = ns;
  name = name;
  definition = d;
  visibility = v;
  number = n;
  declared =
      k;
  bits = 0;
  place = 0;
})

pub cases : List Row
cases =
    -- after the last scope record, before an import; at the end; the words past the end become zero
    done (front ++ (scopes ++ (later ++ replicate 10 7))) 51 (adding (entry_of entry)) (front ++ (scopes ++ (record_of ++ later))) 2
    ∷ done (worked ++ replicate 8 7) 37 (adding (entry_of entry)) (worked ++ record_of) 0
    -- without a scope record: before the first record of a higher kind, else at the end
    ∷ done (front ++ (later ++ replicate 9 7)) 35 (adding (entry_of entry)) (front ++ (record_of ++ later)) 1
    ∷ done (front ++ replicate 9 7) 21 (adding (entry_of entry)) (front ++ record_of) 1
    -- removed: the first, the last, the added one
    ∷ done (front ++ (scopes ++ (later ++ (7 ∷ [])))) 51 (removing 0 0 0) (front ++ (drop 8 scopes ++ later)) 9
    ∷ done worked 37 (removing 1 1 1) (front ++ take 8 scopes) 8
    ∷ done (front ++ (scopes ++ (record_of ++ later))) 59 (removing 0 1 1) (front ++ (scopes ++ later)) 8
    -- 20, 30 and the snapshot's own numbers, before all others
    ∷ not_done 16383 worked 38 (put 0 3 9 9 9 9 9) 20
    ∷ not_done 16384 worked 38 (put 0 3 9 9 9 9 9) 30
    ∷ not_done 16384 worked 36 (put 0 3 9 9 9 9 9) 31
    -- 32, 33, 35, 47, 48, in this order
    ∷ not_done 16384 worked 37 (put 2 3 1 1 0 0 0) 32
    ∷ not_done 16384 worked 37 (put 2 2 1 1 0 0 0) 33
    ∷ not_done 16384 worked 37 (put 0 2 0 0 0 0 0) 35
    ∷ not_done 16384 worked 37 (put 0 0 0 0 0 0 0) 47
    -- 32, 33 and 35 where the name is there already
    ∷ not_done 16384 worked 37 (put 0 0 0 0 4 0 0) 32
    ∷ not_done 16384 worked 37 (put 0 0 0 2 0 0 0) 33
    ∷ not_done 16384 with_macro 32 (put 0 2 0 0 0 0 0) 35
    ∷ not_done 16384 with_macro 32 (put 0 2 0 2 0 0 0) 47
    ∷ not_done 16384 (worked ++ replicate 7 7) 37 (adding (entry_of entry)) 48
    ∷ not_done 16384 worked 37 (removing 0 1 1) 47
    ∷ not_done 16384 worked 37 (removing 268435456 0 0) 47
    ∷ []

pub worked_edits : passes_all cases ≡ true
unfolding passes_all cases
worked_edits = refl
