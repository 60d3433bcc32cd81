pub mod Header
pub mod Record
pub mod Capture
pub mod Writing
pub mod Fill
pub mod Parts
pub mod Reader
