pub mod Counts
pub mod Effects
pub mod Entries
pub mod Refusals
pub mod Room
pub mod Sound
