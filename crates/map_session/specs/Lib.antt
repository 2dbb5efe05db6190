pub mod Said
pub mod Causes
pub mod BranchTexts
pub mod Rooms
pub mod Asked
pub mod Lines
pub mod Answered
