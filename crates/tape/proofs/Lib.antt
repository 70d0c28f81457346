pub mod Floors
pub mod Turns
