pub mod Divisors
pub mod LowestTerms
pub mod Sums
pub mod Lesser
pub mod Shares
pub mod Multiples
