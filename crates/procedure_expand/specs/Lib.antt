pub mod CalledProcedures
pub mod Flats
pub mod Answers
pub mod WorkedProcedures
