pub mod Ranks
pub mod Entries
pub mod Queue
pub mod Best
pub mod Filling
