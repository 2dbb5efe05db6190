pub mod Changed
pub mod Unions
