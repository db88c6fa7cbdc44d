pub mod Reading
pub mod Prefixes
