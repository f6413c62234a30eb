use mathlib.Core.Path.{◌∙◌}
use Rattle.snapshot.specs.declared.ids.DefinitionKind.TheVariants.{Variant}
use Rattle.hir_def.proofs.KindTests.{kind_yes, kind_no}
use Rattle.any_path.proofs.seen_entries.Laws.{as_variant, as_other}
use Rattle.snapshot.specs.Laid.{snap_by}
use Rattle.any_path.proofs.seen_entries.entries.declared_as.Goals as goal

pub returns-then-eq : goal.returns-then-eq
returns-then-eq c =
    λ A.
    c.first_of.ensures A ∙ as_variant (snap_by c.args.records.now A) c.args.d.0
    (kind_yes Variant _ c.eq.ensures (c.known_kind_of.ensures A) c.if-eq.true)

pub returns : goal.returns
returns c =
    λ A.
    as_other (snap_by c.args.records.now A) c.args.d.0 (kind_no Variant _ c.eq.ensures (c.known_kind_of.ensures A) c.if-eq.false)
