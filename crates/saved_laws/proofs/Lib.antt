pub mod Saves
pub mod Loads
pub mod Trips
