pub mod Choice
pub mod Inputs
pub mod Windows
