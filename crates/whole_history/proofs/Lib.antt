pub mod LegalSerial
pub mod Telling
pub mod WholeSerial
pub mod Extending
