-- The line of a question on words that were checked.
use Rattle.std.specs.Prelude.{ℕ, List, ◌++◌}
use Rattle.accept.specs.Post.{Judged, Checked}
use Rattle.printing.specs.Output.{Put}
use Rattle.find_path_spec.specs.declared.Question.{Question}
use Rattle.find_path_spec.specs.Line.{bytes_of, line_of}

-- W are the words, A the work area after the call: the line stands at the front of the bytes, with its end, and the words stay checked
pub record LineOn (W : List ℕ) (q : Question) (c : Checked) (A old new : List ℕ) (n : ℕ) : Type 0 where
  pub line : Put old 0 (line_of W q ++ bytes_of "\n") new n
  pub checked : Judged W A c
