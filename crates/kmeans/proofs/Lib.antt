-- The laws that the proofs of this layer share, and what k-means promises.
pub mod Rooms
pub mod Updates
pub mod Summing
pub mod Selects
pub mod Turns
pub mod Sizes
pub mod Alikes
pub mod Restarts
pub mod Calls
pub mod Clusters
pub mod Before
pub mod Promises
