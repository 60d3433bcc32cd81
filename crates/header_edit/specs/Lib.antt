pub mod Checksum
pub mod Field
pub mod Frame
pub mod Layers
pub mod Right
pub mod Shown
