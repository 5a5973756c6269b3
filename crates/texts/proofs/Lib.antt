pub mod Decimal
pub mod Spelling
pub mod Writing
pub mod Putting
