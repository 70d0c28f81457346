pub mod Best
pub mod Levels
pub mod Lines
pub mod Summaries
pub mod Candidates
