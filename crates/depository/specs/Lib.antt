pub mod Accounts
pub mod Amounts
pub mod Calls
pub mod Changes
pub mod Refusals
