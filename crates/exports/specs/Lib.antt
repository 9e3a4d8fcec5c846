-- The exported functions as definitions.
pub mod Exports
