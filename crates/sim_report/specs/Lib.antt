pub mod FaultLine
pub mod StepsText
pub mod TransitionsText
pub mod CheckText
pub mod Report
pub mod ProbeText
