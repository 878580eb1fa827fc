pub mod FirstIndices
pub mod WholeNumbers
pub mod GoodCounts
pub mod CountedConstants
pub mod SamePositions
pub mod TablesOfPatterns
