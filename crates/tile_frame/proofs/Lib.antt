pub mod Framing
pub mod Answering
