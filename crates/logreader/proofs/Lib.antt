pub mod PlaceLaws
pub mod RestLaws
