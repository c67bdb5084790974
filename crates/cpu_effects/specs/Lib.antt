pub mod Delay
pub mod Flow
pub mod Effects
pub mod Traps
pub mod Jumps
