use Rattle.check_records.proofs.module_records.modules.placed.Goals as goal

pub returns : goal.returns
returns c =
    rw (c.parent_placed.ensures, c.has_module-old.ensures, c.module_parent-root.ensures, c.module_map-map.ensures)
