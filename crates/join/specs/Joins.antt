-- What a join leaves: a refusal and the target as it was, or the joined words at its front.
use Rattle.std.specs.Prelude.{ℕ, ◌≡◌, List, [], ◌++◌, Bool, ◌&&◌, leb, length, drop}
use Rattle.snapshot.specs.Limits.{word_limit, crate_limit, module_limit, name_limit, definition_limit}
use Rattle.answer.specs.Answers.{area_after}
use Rattle.answer.specs.counts.Counts.{Counted}
use Rattle.join_rules.specs.Joined.{Joining, refused_by, joined_as, join_of}

-- the number of the refusal, 0 for none
unfoldable pub number_in : Joining → ℕ
number_in (refused_by n) = n
number_in (joined_as ws) = 0

-- the words that are written
unfoldable pub words_in : Joining → List ℕ
words_in (refused_by n) = []
words_in (joined_as ws) = ws

-- T₀ is the target before the call, T after it: the joined words, and past them what was there
pub record Joins (T₀ : List ℕ) (e : Joining) (T : List ℕ) (r : Counted) : Type 0 where
  pub number : r.number ≡ number_in e
  pub count : r.count ≡ length (words_in e)
  pub target : T ≡ words_in e ++ drop (length (words_in e)) T₀

-- A₀ is the work area before the call, A after it
pub record JoinsIn (W X A₀ T₀ T A : List ℕ) (r : Counted) : Type 0 where
  pub join : Joins T₀ (join_of (length A₀) W X (length T₀)) T r
  pub area : A ≡ area_after A₀

-- so many words, names, crates, modules and definitions pass no limit, and the words fit a target of so many
unfoldable pub fits_in : ℕ → ℕ → ℕ → ℕ → ℕ → ℕ → Bool
fits_in words names crates modules definitions room =
    (leb words word_limit && leb names name_limit && leb crates crate_limit && leb modules module_limit && leb definitions definition_limit)
    && leb words room
