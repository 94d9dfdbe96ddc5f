pub mod CallLaws
pub mod Fives
