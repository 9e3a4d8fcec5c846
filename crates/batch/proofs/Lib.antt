-- Laws of the batch file and its listing.
pub mod Decimals
pub mod Puts
pub mod Joins
pub mod Promises
