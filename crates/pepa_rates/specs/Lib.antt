pub mod Fraction
pub mod Sum
pub mod Share
pub mod Weights
