pub mod ByTime
pub mod ProRata
pub mod Refusals
pub mod Shares
pub mod Worked
pub mod TimeLaws
pub mod Walks
pub mod RataLaws
