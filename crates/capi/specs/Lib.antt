pub mod Modes
pub mod ListFinds
pub mod BlockFinds
pub mod Version
