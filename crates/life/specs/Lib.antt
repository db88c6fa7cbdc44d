pub mod Asks
pub mod Replies
pub mod Telling
pub mod Lives
pub mod Scripts
