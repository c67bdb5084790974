mod Leading
mod Reading
pub mod Views
pub mod Taking
mod Writing
