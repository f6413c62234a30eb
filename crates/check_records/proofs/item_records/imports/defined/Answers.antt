use Rattle.check_records.proofs.item_records.imports.defined.Goals as goal

pub returns : goal.returns
returns c =
    rw (
      c.import_container-container.ensures,
      c.import_name-name.ensures,
      c.import_definition-definition.ensures,
      c.import_owner-owner.ensures,
    )
