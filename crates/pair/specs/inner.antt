pub mod Parts
pub mod Editing
pub mod Inserts
pub mod Deletes
pub mod Finding
