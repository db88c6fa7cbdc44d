pub mod Order
pub mod Places
pub mod Marks
pub mod Labels
pub mod Crossings
pub mod Forests
pub mod Poorest
