-- The line of a question with its route, on words that were checked.
use Rattle.std.specs.Prelude.{ℕ, List, ◌++◌}
use Rattle.accept.specs.Post.{Checked, Judged}
use Rattle.printing.specs.Output.{Put}
use Rattle.find_path_spec.specs.declared.Question.{Question}
use Rattle.find_path_spec.specs.Line.{bytes_of, routed_line_of}

-- W are the words, A the work area after the call: the line stands at the front of the bytes, with its end, and the words stay checked
pub record RoutedOn (W : List ℕ) (q : Question) (c : Checked) (A old new : List ℕ) (n : ℕ) : Type 0 where
  pub line : Put old 0 (routed_line_of W q ++ bytes_of "\n") new n
  pub checked : Judged W A c
