-- What a turn of the printer writes; the lines themselves are passed on to the crates above.
use Rattle.std.specs.Prelude.{ℕ, ◌≤◌, ◌<◌, ◌≡◌, List, [], ◌∷◌, ◌++◌, length, take, drop}
use Rattle.std.specs.Counts.{IsPrefixLen}
use Rattle.accept.specs.Post.{Checked, Judged}
use Rattle.find_path_spec.specs.Line.{bytes_of}
use Rattle.printer.specs.declared.lines.Turn.{Turn}
pub use Rattle.printer.specs.rules.Printed.{is_question, is_head, is_argument, refusal_line, asks_route}
unfoldable pub use Rattle.printer.specs.rules.Printed.{
  first_from,
  questions_at,
  whole_at,
  question_at,
  reach_at,
  viewer_at,
  line_at,
  next_at,
  lines_from,
  input_fault,
  lines_of,
  lines_unless,
  printed,
}

-- One turn of the printer: the line of a place stands at the front of the bytes, with its end, those past it stay as they were in old, the
-- next place is right, and the snapshot stays checked.
pub record Printed (W S : List ℕ) (c : Checked) (i : ℕ) (A old out : List ℕ) (r : Turn) : Type 0 where
  pub line : take r.bytes out ≡ line_at W S i ++ bytes_of "\n"
  pub rest : drop r.bytes out ≡ drop r.bytes old
  pub counts : IsPrefixLen r.bytes out
  pub next : r.next ≡ next_at W i
  pub checked : Judged S A c

-- Turns from a place to the end of the words, one after the other, with what each writes.
pub data Turns (W S : List ℕ) (c : Checked) : ℕ → List (List ℕ) → Type 0 where
  end : {i : ℕ} → length W ≤ i → Turns W S c i []
  turn : {i : ℕ} {later : List (List ℕ)} (A old out : List ℕ) (r : Turn) → i < length W → Printed W S c i A old out r → Turns W S c r.next later
      → Turns W S c i (take r.bytes out ∷ later)

-- a line with its end
abbrev pub ended : List ℕ → List ℕ
ended l = l ++ bytes_of "\n"
