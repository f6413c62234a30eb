pub mod Embeds
pub mod Kept
pub mod joined_lines
