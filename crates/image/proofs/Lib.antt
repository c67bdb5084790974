pub mod Whole
pub mod Facts
pub mod Refusals
