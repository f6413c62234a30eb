use mathlib.Core.Path.{ap₂}
use mathlib.Core.Bool.{◌&&◌}
use lib.Dec.{eqb}
use Rattle.snapshot.specs.declared.ids.DefinitionKind.TheVariants.{Builtin}
use Rattle.hir_def.proofs.KindTests.{kind_is}
use Rattle.join.proofs.numbers.places.is_named.Goals as goal

pub returns : goal.returns
returns c =
    ap₂ (λ x y. x && eqb c.args.name y) (kind_is Builtin _ c.eq-builtin.ensures c.known_definition_kind.ensures) c.definition_first.ensures
