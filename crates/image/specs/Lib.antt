pub mod Image
pub mod Formed
pub mod Refusals
