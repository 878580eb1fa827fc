pub mod WordsHeard
pub mod TableLeads
pub mod LabelLists
pub mod LabelSteps
