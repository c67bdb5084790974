pub mod DepthCueing
pub mod Shading
pub mod Interpolation
