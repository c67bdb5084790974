pub mod Cop0
pub mod Figures
pub mod Formed
pub mod Kept
