pub mod Calls
pub mod Causes
pub mod Contents
pub mod Takings
pub mod Forms
pub mod Steady
pub mod Writers
pub mod Openings
