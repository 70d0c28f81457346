pub mod Answers
pub mod Ranges
pub mod Sides
pub mod Spoken
pub mod Worth
