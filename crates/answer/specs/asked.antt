pub mod StillChecked
pub mod Asked
