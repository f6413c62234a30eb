-- Passed on.
pub use Rattle.module_tree.proofs.Reading.{
  map_read,
  parent_read,
  crate_read,
  block_read,
  no_std_read,
  root_read,
  containing_parent,
  containing_block,
  length_modules,
  own_read,
  length_crates,
  crate_there,
}
