-- Passed on.
pub use Rattle.module_tree.proofs.Climbs.{
  one_more_lem,
  some_number,
  none_number,
  some_exact,
  climb_here,
  climb_top,
  climb_on,
  climb_less,
  meets_here,
  meets_end,
  meets_on,
  in_same,
  in_other,
  in_walk,
  visible_public,
  visible_crate,
}
