use Rattle.check_records.proofs.records.preludes.defined.Goals as goal

pub returns : goal.returns
returns c =
    rw (c.prelude_map.ensures, c.prelude_target-target.ensures)
