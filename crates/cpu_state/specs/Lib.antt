pub mod State
pub mod System
pub mod Exceptions
