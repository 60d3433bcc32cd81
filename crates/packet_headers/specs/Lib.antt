pub mod Fields
pub mod Headers
pub mod Key
pub mod KeyBack
pub mod Layers
pub mod Payload
pub mod Stack
