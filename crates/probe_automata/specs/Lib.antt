pub mod Exploring
pub mod Filters
pub mod Signals
pub mod Builds
pub mod TableMoves
