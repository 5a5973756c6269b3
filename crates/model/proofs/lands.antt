pub mod Land
pub mod Ways
pub mod Looking
pub mod WalkAnswers
pub mod EditAnswers
pub mod FindAnswers
