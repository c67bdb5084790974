pub mod Alu
pub mod Modular
pub mod MulDiv
