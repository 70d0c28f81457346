pub mod Bids
pub mod QueueOrderLemmas
