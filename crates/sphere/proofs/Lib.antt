-- What the root's proofs lean on, and the promise of the root.
pub mod Squares
pub mod Digits
pub mod Patterns
pub mod Coded
pub mod Cases
pub mod RootPromises
pub mod Units
pub mod Closest
pub mod Examples
