pub mod Orders
pub mod Signals
pub mod Jumps
pub mod Runs
