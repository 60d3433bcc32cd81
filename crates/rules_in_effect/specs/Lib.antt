pub mod Entries
pub mod IdIndex
pub mod IdIndexInside
pub mod Inside
pub mod Order
pub mod OrderInside
pub mod RulesView
pub mod Scan
