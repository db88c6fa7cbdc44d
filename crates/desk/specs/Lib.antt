pub mod Questions
pub mod Replies
pub mod Setups
pub mod Scores
