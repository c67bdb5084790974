pub mod Flags
mod Wraps
