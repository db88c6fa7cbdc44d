pub mod Rigs
pub mod Members
pub mod Finding
pub mod Links
pub mod Orders
pub mod Fusions
pub mod Groups
pub mod Phases
