pub mod Apart
pub mod Normal
pub mod Quotients
pub mod Table
