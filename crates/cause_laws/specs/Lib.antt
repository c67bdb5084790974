pub mod Rows
pub mod Exact
