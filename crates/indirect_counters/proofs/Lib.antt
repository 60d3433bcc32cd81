pub mod Alike
pub mod Counting
pub mod Creating
pub mod Effects
pub mod Lawful
pub mod Moving
pub mod Unused
