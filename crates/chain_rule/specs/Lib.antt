pub mod Rule
pub mod Told
pub mod Pacing
pub mod Passes
pub mod Splits
pub mod Stepping
