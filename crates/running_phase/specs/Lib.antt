pub mod Copies
pub mod Shares
pub mod Sends
pub mod Turns
pub mod Orders
pub mod Roster
pub mod Actors
