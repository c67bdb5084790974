pub mod Addresses
pub mod Memory
pub mod Stores
pub mod Loads
