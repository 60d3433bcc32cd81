pub mod Halves
pub mod Hash
pub mod Kinds
pub mod Spread
