pub mod Bound
pub mod Refusals
pub mod Slots
pub mod TableInside
pub mod TableView
pub mod TemplatesInside
pub mod TemplatesView
