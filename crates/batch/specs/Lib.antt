-- 01, 'Batch file and listing', as definitions: the file's shape, the listing's bytes, a file's answer, and what the functions inside say.
pub mod Shape
pub mod Listing
pub mod Batch
pub mod Inside
