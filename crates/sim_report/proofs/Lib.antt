pub mod LineLemmas
pub mod WrittenSteps
pub mod ReportLemmas
