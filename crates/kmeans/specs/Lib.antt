-- 01, 'K-means', as definitions: the five steps, the call with its refusals, and what the functions inside say of their slices.
pub mod Steps
pub mod KMeans
pub mod Inside
pub mod Call
