use mathlib.Core.Path.{◌∙◌}
use Rattle.snapshot.specs.declared.ids.DefinitionKind.TheVariants.{Variant}
use Rattle.hir_def.proofs.KindTests.{kind_yes, kind_no}
use Rattle.join.specs.records.Moves.{numbers_of}
use Rattle.join.proofs.records.Laws.{second_variant, second_none}
use Rattle.join.proofs.records.fields.Moving.second_to.Goals as goal

pub returns-then-eq : goal.returns-then-eq
returns-then-eq c =
    c.name_to.ensures ∙ second_variant (numbers_of c.args.self.now.area.now c.args.self.now.first) c.args.k c.args.n
    (kind_yes Variant _ c.eq.ensures c.of.ensures c.if-eq.true)

pub returns : goal.returns
returns c =
    second_none (numbers_of c.args.self.now.area.now c.args.self.now.first) c.args.k c.args.n
    (kind_no Variant _ c.eq.ensures c.of.ensures c.if-eq.false)
