use mathlib.Core.Path.{ap}
use lib.Dec.{leb}
use Rattle.hir_def.proofs.item_scope.is_deprecated.Goals as goal

pub returns : goal.returns
returns c = ap (leb 2) c.scope_declared.ensures
