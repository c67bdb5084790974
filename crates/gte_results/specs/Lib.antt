pub mod Effects
pub mod VertexEffects
pub mod ShadeEffects
pub mod AverageEffects
