pub mod Owners
pub mod Calls
pub mod Holding
pub mod Ports
pub mod Standing
pub mod Bursts
