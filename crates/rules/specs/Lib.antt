pub mod Stored
pub mod Judging
pub mod Actions
