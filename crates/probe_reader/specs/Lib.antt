pub mod ProbeGrammar
pub mod ProbeTrees
pub mod ProbeMachine
pub mod ProbeReading
pub mod ProbeAnswers
