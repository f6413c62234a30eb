-- Passed on.
pub use Rattle.module_tree.proofs.Chains.{map_known, parent_fits, block_fits, block_falls, containing_falls, climb_falls, root_first}
