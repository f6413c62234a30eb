use Rattle.check_records.proofs.records.repeats.same_fields.Goals as goal

pub returns : goal.returns
returns c = rw (
  c.field-4.ensures,
  c.field-3.ensures,
  c.field-2.ensures,
  c.field.ensures,
  c.payload-2.ensures,
  c.payload.ensures,
)
