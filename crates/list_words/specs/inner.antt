pub mod Descriptors
pub mod Surveys
pub mod Seeks
