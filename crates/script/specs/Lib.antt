pub mod Printed
pub mod Calls
pub mod Runs
pub mod Sample
pub mod inner
