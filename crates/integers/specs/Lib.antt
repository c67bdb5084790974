-- The laws of the integers that every other crate's proofs cite. Nothing here speaks of the emulated machine.
-- The bridge to `omega`, products, identities, division rounded down, bounds, wraps, the machine's bits, limits.
pub mod Parts
pub mod Product
pub mod Ring
pub mod Floor
pub mod Bound
pub mod Wrap
pub mod Bits
pub mod Clamp
