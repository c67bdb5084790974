pub mod Shade
pub mod Lights
pub mod Cueing
