use mathlib.Core.Path.{ap, sym, ◌∙◌}
use mathlib.Core.List.{◌++◌}
use Rattle.printing.proofs.Laws.{put_as}
use Rattle.find_path_spec.specs.Line.{bytes_of}
use Rattle.reach.specs.parts.Reach.{reach_line}
use Rattle.reach.proofs.lines.reach_line_on.Goals as goal

pub returns : goal.returns
returns c =
    let r = c.reach_on.ensures in
    record { line = put_as (ap (λ x. reach_line x ++ bytes_of "\n") (sym c.tell_reach-number.ensures ∙ r.reach)) c.put_reach.ensures; checked = r.checked }
