pub mod Numbers
pub mod Twos
pub mod Ones
pub mod Lending
pub mod LentRows
