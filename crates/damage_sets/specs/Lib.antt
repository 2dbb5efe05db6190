pub mod Classes
pub mod Sets
pub mod Damage
pub mod Widened
pub mod Added
pub mod Seen
pub mod Counted
