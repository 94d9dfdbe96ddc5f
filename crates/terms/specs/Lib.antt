pub mod Refusals
pub mod Kinds
pub mod Calls
pub mod Rules
