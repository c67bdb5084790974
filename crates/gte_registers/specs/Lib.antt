pub mod Registers
pub mod Taken
