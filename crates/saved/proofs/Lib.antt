pub mod Words
pub mod Places
pub mod Calls
