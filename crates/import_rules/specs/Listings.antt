-- What the import list of a crate comes to: a refusal, or the words of its records.
use Rattle.std.specs.Prelude.{ℕ, List, [], true, false, leb, ltb, length}
use Rattle.snapshot.specs.Limits.{area_limit}
use Rattle.snapshot.specs.Refusals.{area_refusal, unknown_refusal, target_refusal}
use Rattle.snapshot.specs.Records.{Snapshot}
use Rattle.check_rules.specs.Verdict.{Verdict, refuse, accept, verdict}
use Rattle.import_rules.specs.Collect.{collected, words_of}

pub data Listing : Type 0 where
  refused_by : ℕ → Listing
  listed : List ℕ → Listing

-- the list of the crate c, for a target of so many words: an unknown crate, then a target that is too short
unfoldable pub list_in : ℕ → ℕ → Snapshot → Listing
list_in c room s =
    elim (ltb c (length s.crates)) [
      | true ↦ elim (leb (length (words_of (collected s c))) room) [ true ↦ listed (words_of (collected s c)) | false ↦ refused_by target_refusal ]
      | false ↦ refused_by unknown_refusal
    ]

unfoldable pub list_by : ℕ → ℕ → Verdict → Listing
list_by c room (refuse n at) = refused_by n
list_by c room (accept s) = list_in c room s

-- The same with a work area of so many words. The refusals come in the order 20, 30 to 36 and 43 of the snapshot, 23, 45.
unfoldable pub list_of : ℕ → List ℕ → ℕ → ℕ → Listing
list_of area W c room = elim (ltb area area_limit) [ true ↦ refused_by area_refusal | false ↦ list_by c room (verdict W) ]

-- the number of the refusal, 0 for none
unfoldable pub number_in : Listing → ℕ
number_in (refused_by n) = n
number_in (listed ws) = 0

-- the words that are written
unfoldable pub words_in : Listing → List ℕ
words_in (refused_by n) = []
words_in (listed ws) = ws
