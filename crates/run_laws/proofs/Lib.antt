pub mod Machine
pub mod Joins
pub mod Answers
pub mod Demand
pub mod Searches
pub mod Unmoved
