pub mod Demand
pub mod Exact
pub mod Formed
