pub mod Widening
pub mod Bands
pub mod Rows
pub mod Turns
pub mod Whole
pub mod Counting
