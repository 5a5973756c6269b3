pub mod Layout
pub mod Calls
pub mod Claims
pub mod inner
