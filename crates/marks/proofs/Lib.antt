pub mod Sheds
pub mod Numberings
pub mod Turns
