pub mod chains
pub mod record_rules
