pub mod Entries
pub mod Queues
pub mod Equations
pub mod Takes
pub mod Steps
pub mod Fills
pub mod Moves
pub mod Existing
