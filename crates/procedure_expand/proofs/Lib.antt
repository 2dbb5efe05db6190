pub mod Giving
pub mod Putting
pub mod Plain
pub mod Checks
pub mod Fewer
pub mod WorkedBodies
