use Prim.Native.Nat.{◌+◌}
use mathlib.Core.Path.{ap, sym, ◌∙◌}
use mathlib.Core.Bool.{not}
use lib.Dec.{eqb}
use lib.ListN.{get_or}
use Rattle.check_records.specs.chains.Chains.{module_marks}
use Rattle.snapshot.specs.Layouts.{definition_base}
use Rattle.snapshot.specs.DefinitionKinds.{definition_kind_number}
use Rattle.snapshot.proofs.KindLaws.{definition_known}
use Rattle.check_records.proofs.record_rules.Laws.{and_yes}
use Rattle.check_records.proofs.records.Linked.{module_again}
use Rattle.check_records.proofs.item_records.definitions.again.Goals as goal

pub returns-in-Some-Module : goal.returns-in-Some-Module
returns-in-Some-Module c h =
    let e = definition_known _ (sym c.known_definition_kind.ensures ∙ c.in-Some-Module.is)
    ∙ ap definition_kind_number c.in-Some-Module.field-0-is in
    and_yes (rw e)
    (ap (λ x. not (eqb x 0)) (c.word.ensures ∙ ap (λ f. get_or c.args.area.now (module_marks + f) 0) c.definition_first-mark.ensures)
    ∙ module_again c.args.words.now c.args.area.now c.args.at (definition_base c.args.l) c.args.l.definitions e
    (h e) c.requires.marked)
