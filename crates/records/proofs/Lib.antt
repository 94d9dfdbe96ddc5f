pub mod Frames
pub mod RecordLaws
pub mod TagLaws
