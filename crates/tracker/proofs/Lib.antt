pub mod Tests
pub mod Facts
pub mod Finding
pub mod Uses
pub mod Ending
pub mod Joined
pub mod Holders
