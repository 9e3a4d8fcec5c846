-- The laws that the proofs of this layer share, and what labelling and the pool promise.
pub mod Columns
pub mod Searches
pub mod Assigns
pub mod Modes
pub mod Calls
pub mod Firsts
pub mod Places
pub mod Promises
pub mod Blocks
pub mod Pools
pub mod Farther
pub mod PoolPromises
