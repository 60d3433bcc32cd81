pub mod InOrder
pub mod NoPayload
