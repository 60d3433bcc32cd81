pub mod FatesBelow
pub mod Keeping
pub mod LawfulParts
pub mod Namings
pub mod SharedKept
pub mod SharedValues
pub mod Validity
pub mod Visits
