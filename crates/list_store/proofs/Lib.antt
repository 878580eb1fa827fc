pub mod ListReads
pub mod Offering
