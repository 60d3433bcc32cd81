pub mod Bare
pub mod Binding
pub mod Difference
pub mod Templates
