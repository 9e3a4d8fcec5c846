-- Little-endian bytes as definitions.
pub mod Bytes
pub mod Laws
