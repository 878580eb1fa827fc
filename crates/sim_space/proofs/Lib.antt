pub mod PassiveRates
pub mod WeightSums
