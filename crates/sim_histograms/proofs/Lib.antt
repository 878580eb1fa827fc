pub mod RankFacts
pub mod HistogramFacts
pub mod SummaryFacts
