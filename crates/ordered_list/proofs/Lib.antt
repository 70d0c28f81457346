mod Edits
pub mod Keys
pub mod Laws
pub mod Memory
pub mod Placed
pub mod Positions
pub mod Sorted
