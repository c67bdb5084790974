pub mod Figures
pub mod Masks
pub mod Formed
pub mod Kept
pub mod Cop0
