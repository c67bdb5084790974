pub mod Refusals
pub mod Save
pub mod Load
pub mod Parts
