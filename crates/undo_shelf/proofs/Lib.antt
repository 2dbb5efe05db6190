pub mod Chains
pub mod Undone
