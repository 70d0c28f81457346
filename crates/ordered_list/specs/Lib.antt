pub mod Arrays
pub mod Keys
pub mod Lent
pub mod Lists
pub mod Order
pub mod Refusals
