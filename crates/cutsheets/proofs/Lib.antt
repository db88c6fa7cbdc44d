pub mod Facings
pub mod Cores
