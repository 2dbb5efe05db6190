pub mod Operations
pub mod Operands
