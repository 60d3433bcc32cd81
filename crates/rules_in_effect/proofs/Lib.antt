pub mod Distinct
mod Kept
mod Named
mod Ordered
mod Scanning
mod Waits
