pub mod Runs
pub mod Expanded
pub mod Counted
