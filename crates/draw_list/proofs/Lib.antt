pub mod Widths
pub mod Splits
pub mod Exact
