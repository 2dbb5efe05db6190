pub mod Ordering
pub mod Joining
pub mod Touching
