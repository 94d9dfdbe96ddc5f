pub mod Words
pub mod Filling
pub mod Composition
pub mod Halves
