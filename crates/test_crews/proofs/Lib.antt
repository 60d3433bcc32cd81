pub mod Rising
pub mod Crews
