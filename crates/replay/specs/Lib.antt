-- Stored answers of the oracle, held against the definitions.
pub mod Replay
pub mod Operation
