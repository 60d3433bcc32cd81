pub mod Reach
pub mod Whole
pub mod Serial
