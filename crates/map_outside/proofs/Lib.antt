mod Pieces
mod Rooms
pub mod Tellings
