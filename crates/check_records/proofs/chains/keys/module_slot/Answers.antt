use Rattle.check_records.proofs.chains.Laws.{slot_none, slot_module}
use Rattle.check_records.proofs.chains.keys.module_slot.Goals as goal

pub returns-then-payload : goal.returns-then-payload
returns-then-payload c =
    slot_none c.args.words.now c.args.at c.payload.ensures c.if-payload.true

pub returns : goal.returns
returns c =
    slot_module c.args.words.now c.args.at c.payload.ensures c.if-payload.false c.field.ensures
