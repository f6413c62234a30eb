use Rattle.check_records.proofs.records.children.placed.Goals as goal

pub returns : goal.returns
returns c = rw (
  c.module_parent.ensures,
  c.module_map-2.ensures,
  c.module_map.ensures,
  c.child_child-child.ensures,
  c.child_owner-owner.ensures,
)
