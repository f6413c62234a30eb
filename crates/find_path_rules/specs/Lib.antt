pub mod rule_lookups
