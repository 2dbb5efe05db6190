pub mod Dropping
pub mod Searching
pub mod Taking
