use Rattle.std.proofs.Common.{rules}
use Rattle.find_path_local.proofs.tight_rows.Farther.{clear_levels}
use Rattle.find_path_local.proofs.tight_rows.is_clear.Goals as goal

pub returns : goal.returns
returns c = clear_levels _ c.args.area.now c.args.left (λ p q. search rules) _ _ _ c.any_level.ensures
