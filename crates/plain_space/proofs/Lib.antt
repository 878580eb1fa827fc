pub mod Weighing
pub mod WholeWeights
pub mod LoadedTerms
