pub mod Rows
pub mod Plans
pub mod Worked
pub mod Replies
pub mod View
pub mod Calling
