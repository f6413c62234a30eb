-- The reach of a module on words that were checked.
use Rattle.std.specs.Prelude.{ℕ, ◌≡◌, List, ◌++◌}
use Rattle.snapshot.specs.Limits.{area_limit}
use Rattle.accept.specs.Post.{Judged, Checked}
use Rattle.reach.specs.declared.parts.Viewer.{Viewer}
use Rattle.printing.specs.Output.{Put}
use Rattle.find_path_spec.specs.Line.{bytes_of}
use Rattle.reach.specs.parts.Reach.{Reach, reach_of, reach_line}

-- W are the words, A the work area after the call: the reach is that of the definition, and the words stay checked
pub record Reached (W : List ℕ) (v : Viewer) (c : Checked) (A : List ℕ) (r : Reach) : Type 0 where
  pub reach : r ≡ reach_of W area_limit v
  pub checked : Judged W A c

-- the same for its printed line, which stands at the front of the bytes, with its end
pub record ReachLineOn (W : List ℕ) (v : Viewer) (c : Checked) (A old new : List ℕ) (n : ℕ) : Type 0 where
  pub line : Put old 0 (reach_line (reach_of W area_limit v) ++ bytes_of "\n") new n
  pub checked : Judged W A c
