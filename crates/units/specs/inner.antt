pub mod Aims
pub mod Parts
