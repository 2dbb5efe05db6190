pub mod Rules
pub mod Refusals
pub mod Run
pub mod Readers
pub mod Once
