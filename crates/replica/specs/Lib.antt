pub mod Caught
pub mod Inside
pub mod Path
pub mod Rewritten
