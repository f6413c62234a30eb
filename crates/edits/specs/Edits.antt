-- What an edit promises.
use Rattle.std.specs.Prelude.{ℕ, ◌-◌, ◌≤◌, ◌≡◌, List, ◌++◌, length, take, Result, Ok, Err}
use Rattle.snapshot.specs.Limits.{area_limit}
use Rattle.snapshot.specs.Refusals.{refusal_number}
use Rattle.snapshot.specs.declared.layout.Layout.{Layout}
use Rattle.snapshot.specs.declared.refusal.Refusal.{Refusal}
use Rattle.accept.specs.Post.{Reads}
use Rattle.answer.specs.Answers.{zeros, area_after}
use Rattle.answer.specs.counts.Counts.{Counted}
use Rattle.edit_rules.specs.Edits.{Edit, refused_by, edited, Operation, edit_of}

-- the number of the refusal, 0 for none
unfoldable pub number_in : Edit → ℕ
number_in (refused_by k) = k
number_in (edited S) = 0

-- how many words the snapshot has after it
unfoldable pub count_after : ℕ → Edit → ℕ
count_after n (refused_by k) = n
count_after n (edited S) = length S

-- the words of the slice after it: those of the snapshot, and zeros
unfoldable pub words_after : List ℕ → Edit → List ℕ
words_after W (refused_by k) = W
words_after W (edited S) = S ++ zeros (length W - length S)

-- W₀ is the slice before the edit, with a snapshot of n words, and W after it
pub record Edits (W₀ : List ℕ) (n : ℕ) (e : Edit) (W : List ℕ) (r : Counted) : Type 0 where
  pub number : r.number ≡ number_in e
  pub count : r.count ≡ count_after n e
  pub words : W ≡ words_after W₀ e

-- A₀ is the work area before the edit, A after it
pub record EditsIn (W₀ : List ℕ) (n : ℕ) (A₀ : List ℕ) (o : Operation) (W A : List ℕ) (r : Counted) : Type 0 where
  pub edit : Edits W₀ n (edit_of (length A₀) W₀ n o) W r
  pub area : A ≡ area_after A₀

-- What the check before an edit of the first n words answers, in a work area of so many words: the number by which every edit is refused,
-- or the layout of words that can be read.
abbrev pub Opens : List ℕ → ℕ → ℕ → Result Layout Refusal → Type 0
Opens W n area (Err k) = (o : Operation) → edit_of area W n o ≡ refused_by (refusal_number k)
Opens W n area (Ok l) = (area_limit ≤ area) × ((n ≤ length W) × ((A : List ℕ) × Reads (take n W) A l))
