pub mod Bits
pub mod Pulls
pub mod Comparison
