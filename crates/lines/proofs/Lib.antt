pub mod Running
pub mod Pieces
pub mod Numerals
pub mod Packing
pub mod Fields
pub mod Requesting
