pub mod Digits
pub mod Steps
pub mod Slices
pub mod Dots
pub mod Joined
