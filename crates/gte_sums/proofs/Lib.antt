pub mod Three
pub mod Widen
