pub mod Shedding
pub mod State
