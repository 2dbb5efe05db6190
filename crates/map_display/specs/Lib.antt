pub mod OfLayer
pub mod Lines
