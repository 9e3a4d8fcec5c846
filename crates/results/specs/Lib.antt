-- The result file of document 02, (vi), as definitions.
pub mod Grouping
pub mod Files
pub mod Calls
pub mod Inside
