-- The laws of closure, and what it promises.
pub mod FloatGrowth
pub mod Laws
pub mod Nearer
pub mod Promises
