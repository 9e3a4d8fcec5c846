-- The laws that the proofs of the exported functions share, and what the functions promise of their numbers.
pub mod Exporting
pub mod Promises
