pub mod Distance
pub mod Near
pub mod Demand
pub mod Exact
pub mod Formed
