-- The worked examples of document 01 ('Bench examples') as one table.
pub mod Table
