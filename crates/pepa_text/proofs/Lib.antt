pub mod Kept
pub mod ModelNumbers
