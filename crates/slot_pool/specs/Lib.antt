pub mod Handle
pub mod Links
pub mod Pool
pub mod Place
pub mod Lends
