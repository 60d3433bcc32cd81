-- What the public functions of the crate say.
pub mod Captures
