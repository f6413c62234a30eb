-- Words written to a target, or only counted. Only contracts of inner functions and proofs cite it.
use Rattle.std.specs.Prelude.{ℕ, ◌+◌, ◌^◌, ◌≤◌, ◌<◌, ◌≡◌, List, Bool, true, length, get_or}
use Rattle.snapshot.specs.Limits.{word_limit}
use Rattle.snapshot.specs.Layouts.{word_count}
use Rattle.snapshot.specs.declared.layout.Layout.{Layout}
use Rattle.answer.specs.counts.Targets.{written}
use Rattle.join.specs.declared.numbers.inputs.Parts.{Parts}

-- the words can be counted; if they are to be written there is room for them at a place, and each fits
pub record Space (write : Bool) (at : ℕ) (ws T : List ℕ) : Type 0 where
  pub small : at + length ws ≤ 2 ^ 50
  pub room : write ≡ true → at + length ws ≤ length T
  pub fits : write ≡ true → (i : ℕ) → i < length ws → get_or ws i 0 < 2 ^ 32

pub record Wrote (write : Bool) (at : ℕ) (ws A B : List ℕ) (r : ℕ) : Type 0 where
  pub next : r ≡ at + length ws
  pub same : B ≡ written write at ws A

-- the layout of all the words of an input
pub record Whole (W : List ℕ) (l : Layout) : Type 0 where
  pub whole : word_count l ≡ length W
  pub short : length W ≤ word_limit

-- those of both parts
abbrev pub whole_in : Parts → Type 0
whole_in p = Whole p.first.words.now p.first.layout × Whole p.second.words.now p.second.layout
