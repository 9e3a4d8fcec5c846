-- 01, 'Grouping', 'Balancing' and 'Ranges and refusal numbers', as definitions: a group's rows gathered per label, parts balanced, one
-- split, the waiting groups, the means, the call with its refusals, and what the functions inside say of their slices.
pub mod Parts
pub mod Balance
pub mod PartsInside
pub mod Groups
pub mod Answers
pub mod Inside
pub mod Call
