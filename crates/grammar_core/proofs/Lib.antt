pub mod FirstFault
pub mod Once
pub mod Parts
pub mod Reading
pub mod Ends
