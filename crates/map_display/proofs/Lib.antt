pub mod Gathering
pub mod Rows
pub mod Told
