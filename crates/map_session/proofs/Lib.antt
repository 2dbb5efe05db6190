pub mod Listing
pub mod Pairs
pub mod EditSteps
pub mod UndoSteps
pub mod LoadSteps
pub mod LineSteps
pub mod BranchSteps
