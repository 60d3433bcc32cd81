pub mod Shares
pub mod Passing
pub mod Members
