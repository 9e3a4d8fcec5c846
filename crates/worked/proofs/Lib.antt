-- The worked examples hold, the slips of document 01 give other answers, and refills are counted.
pub mod Opened
pub mod Settled
pub mod Holds
pub mod Slips
pub mod Refills
