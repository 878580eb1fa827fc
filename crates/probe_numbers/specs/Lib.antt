pub mod WholeNumbers
pub mod BadCounts
pub mod NumberedProbes
pub mod PatternTables
