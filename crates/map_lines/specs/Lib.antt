pub mod Present
pub mod ReadAgain
