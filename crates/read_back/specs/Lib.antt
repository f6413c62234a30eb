pub mod readings
