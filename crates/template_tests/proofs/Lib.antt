-- Lemmas of the tests.

pub mod Changed
