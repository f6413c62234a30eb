use mathlib.Core.Path.{sym, ◌∙◌}
use Rattle.std.proofs.Common.{rules}
use Rattle.hir_def.specs.Items.{same_item}
use Rattle.find_path_spec.specs.Walk.{has, visited}
use Rattle.find_path_levels.specs.Levels.{levels_of}
use Rattle.find_path_levels.proofs.Each.{any_item, any_both}
use Rattle.find_path_levels.proofs.walk_once.is_on.Goals as goal

pub returns : goal.returns
unfolding visited
returns c =
    let A = c.args.area.now in
    let r = any_item _ A c.args.sought.item c.args.sought.small c.code_of-code.ensures.0 (λ p b q. search rules) _ _ _ c.any_level.ensures in
    λ e m. any_both (λ l. same_item l.item c.args.sought.item) (λ l. has l.modules m) (levels_of A c.args.s.place c.args.s.depth) (sym r ∙ e)
