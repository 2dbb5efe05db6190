pub mod Bytes
pub mod Words
pub mod Names
pub mod Numbers
pub mod Capped
pub mod Cut
pub mod Named
