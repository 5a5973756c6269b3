pub mod Lists
pub mod Steps
pub mod Picks
pub mod Looks
pub mod Laws
