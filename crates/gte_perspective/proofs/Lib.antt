pub mod Joined
pub mod Plain
