pub mod Answers
pub mod Desks
pub mod Hosts
pub mod Plays
pub mod Results
pub mod Stages
pub mod Tasks
