use mathlib.Core.Path.{ap}
use lib.Dec.{eqb}
use mathlib.Core.Bool.{not}
use Rattle.hir_def.proofs.items.is_lang.Goals as goal

pub returns : goal.returns
returns c = λ A. ap (λ n. not (eqb n 0)) (c.origin_of.ensures A)
