mod Checked
pub mod Quotient
pub mod Product
