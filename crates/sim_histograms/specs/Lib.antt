pub mod Ranks
pub mod Histograms
pub mod Summaries
