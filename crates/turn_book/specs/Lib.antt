pub mod Views
pub mod Rule
pub mod Plays
pub mod Seats
pub mod Books
pub mod Turns
