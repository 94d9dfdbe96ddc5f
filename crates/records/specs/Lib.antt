pub mod Reading
pub mod Tags
