pub mod Tallies
pub mod Surveys
