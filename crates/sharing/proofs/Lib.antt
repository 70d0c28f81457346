pub mod Calls
pub mod Faults
pub mod Lines
pub mod RataPasses
