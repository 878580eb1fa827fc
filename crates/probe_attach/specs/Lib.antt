pub mod FirstStates
pub mod Systems
