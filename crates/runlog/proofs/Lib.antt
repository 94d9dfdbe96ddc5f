pub mod RunLaws
pub mod WordLaws
