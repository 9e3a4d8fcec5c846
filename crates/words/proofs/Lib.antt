pub mod ByteLaws
pub mod Blocks
