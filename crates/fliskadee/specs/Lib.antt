pub mod Answer
pub mod Find
pub mod Interface
pub mod Parts
