pub mod Headers
pub mod Records
pub mod Moves
pub mod Fronts
pub mod ReadBack
