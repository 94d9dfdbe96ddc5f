pub mod Transposed
pub mod Rounds
