-- Passed on to the crates above.
pub use Rattle.check_records.proofs.record_rules.Tabled.{Kept, names_kept, modules_kept, set_kept, heads_kept}
