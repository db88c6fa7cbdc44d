pub mod Grades
pub mod Rigs
pub mod CutSheets
pub mod Tells
pub mod Over
