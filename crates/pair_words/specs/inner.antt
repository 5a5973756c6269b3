pub mod Shares
pub mod Lefts
pub mod Besides
