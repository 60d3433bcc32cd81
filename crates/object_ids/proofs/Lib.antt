pub mod Alike
pub mod Unused
