pub mod Perspective
pub mod Projection
pub mod Vertices
