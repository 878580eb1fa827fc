pub mod Device
pub mod Chains
pub mod TicksText
