pub mod View
pub mod Answers
pub mod Logs
pub mod TwoRuns
pub mod AtOnce
pub mod Chains
pub mod Telling
