mod Closed
mod Going
pub mod Placed
