pub mod Decode
pub mod Owners
pub mod Fields
