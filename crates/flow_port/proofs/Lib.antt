pub mod Owning
pub mod Asking
pub mod Closing
pub mod Making
pub mod Standing
pub mod Passing
pub mod Numbers
