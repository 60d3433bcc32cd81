pub mod Outcomes
pub mod OpQueue
