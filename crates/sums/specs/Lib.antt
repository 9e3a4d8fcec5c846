-- The lowest layer of document 01 as definitions: lists by index and by rows, sums in stated order, orders, draws, refusal numbers.
pub mod Tables
pub mod Rows
pub mod Table
pub mod Sums
pub mod Ordering
pub mod Cells
pub mod Draws
pub mod Refusals
pub mod Refused
