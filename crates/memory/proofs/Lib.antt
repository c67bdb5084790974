pub mod Places
pub mod Lengths
mod StoresAligned
mod LoadsAligned
mod StoresBeyond
mod LoadsBeyond
mod Merges
