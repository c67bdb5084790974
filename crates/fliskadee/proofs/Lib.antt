mod Answers
mod Refused
pub mod Parts
