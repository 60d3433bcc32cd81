pub mod Fronts
pub mod Joins
pub mod Readings
pub mod NamedFiles
