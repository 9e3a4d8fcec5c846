-- The laws of the comparison with stored bytes.
pub mod Sames
pub mod Agreeing
