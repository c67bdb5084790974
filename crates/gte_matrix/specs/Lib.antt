pub mod Multiply
pub mod SqrOp
