pub mod FlushKeeps
pub mod Ways
pub mod FlushAnswers
