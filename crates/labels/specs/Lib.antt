-- 01, 'Sums in stated order' (score and label), 'K-means' step 3 (the pool), and the labelling call, as definitions.
pub mod Label
pub mod Panels
pub mod Pool
pub mod Mode
pub mod Call
pub mod Inside
