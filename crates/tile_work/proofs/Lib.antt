pub mod Slots
mod Seats
pub mod Numbers
pub mod Pushing
pub mod Copies
pub mod Marks
