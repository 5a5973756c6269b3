pub mod Flush
pub mod Claims
pub mod inner
