pub mod NormalCueing
pub mod NormalColours
pub mod Normals
