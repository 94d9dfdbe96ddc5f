pub mod Members
pub mod Rising
pub mod Unions
