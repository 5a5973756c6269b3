pub mod Edits
pub mod Places
pub mod Joins
pub mod Chains
