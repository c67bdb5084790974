pub mod Packets
pub mod Widths
pub mod Exact
