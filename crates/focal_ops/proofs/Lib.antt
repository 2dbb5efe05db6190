pub mod Spans
pub mod Offsets
pub mod Round
pub mod Mosts
pub mod Powers
pub mod Joins
pub mod FirstCells
pub mod Counting
